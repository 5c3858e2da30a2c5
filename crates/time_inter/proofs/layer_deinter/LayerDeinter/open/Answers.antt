use Rattle.std.proofs.Common.{◌≡◌, ℕ, ◌-◌, ◌*◌, ◌%◌, ◌++◌, ◌∷◌, [], map, replicate, rules, sym, ◌∙◌, ap, arith}
use Rattle.std.specs.List.{range_with_len}
use Rattle.isdbt_base.specs.Numbers.{carriers}
use Rattle.delay_line.proofs.BankLaws.{IsBankOf-new, StandsFor-new, new_lines-more, new_bank-all}
use Rattle.time_inter.specs.Layouts.{layer_deinter_layout}
use Rattle.time_inter.proofs.layer_deinter.LayerDeinter.open.Goals as goal

pub loop-cell-preserved : goal.loop-cell-preserved
loop-cell-preserved c =
    let length = c.depth_of-length.result in
    let delay : ℕ → ℕ = λ w. length * (95 - 5 * (w % carriers c.args.mode) % 96) in
    c.in_ok-add.ensures.ok ∙ ap (λ b. b ++ replicate (length * (95 - 5 * (c.loop-cell.cell % c.carriers.result) % 96)) 0 ∷ []) c.loop-cell.invariant
    ∙ ap (λ k. map (λ w. replicate (delay w) 0) (range_with_len 0 c.loop-cell.cell) ++ replicate (length * (95 - 5 * (c.loop-cell.cell % k) % 96)) 0 ∷ []) c.carriers.ensures.value ∙ sym (new_lines-more delay 0 c.loop-cell.cell)

pub invariant_of-result : goal.invariant_of-result
invariant_of-result c =
    let l = layer_deinter_layout c.depth_of-length.result (carriers c.args.mode) c.segments.result in
    let all : c.loop-cell.cell ≡ c.segments.result * carriers c.args.mode = (let end : c.loop-cell.cell ≡ c.cells-cell-end.result = omega arith in end) ∙ c.cells-cell-end.ensures.value ∙ ap (λ k. k * carriers c.args.mode) (sym c.segments.ensures.value) in
    record {
      least_segments = search rules;
      most_segments = search rules;
      most_length = search rules;
      lines = rw (new_bank-all l c.loop-cell.bank c.loop-cell.cell c.loop-cell.invariant all) (IsBankOf-new l);
    }

pub returns-clause-stands : goal.returns-clause-stands
returns-clause-stands c =
    let l = layer_deinter_layout c.depth_of-length.result (carriers c.args.mode) c.segments.result in
    let all : c.loop-cell.cell ≡ c.segments.result * carriers c.args.mode = (let end : c.loop-cell.cell ≡ c.cells-cell-end.result = omega arith in end) ∙ c.cells-cell-end.ensures.value ∙ ap (λ k. k * carriers c.args.mode) (sym c.segments.ensures.value) in
    rw (new_bank-all l c.loop-cell.bank c.loop-cell.cell c.loop-cell.invariant all) (StandsFor-new l)
