use Rattle.std.proofs.Common.{◌≡◌, ◌+◌, ◌*◌, ◌≤◌, [], ◌∷◌, ◌++◌, length, take, set, length-set, refl, ap, sym, ◌∙◌, arith, append_assoc, get_or}
use Rattle.std.specs.Int.{w8, cast_unsigned}
use Rattle.std.specs.Prelude.{pos}
use Rattle.std.proofs.lemmas.Int.{ints, to_z-of_z}
use Rattle.cell_map.specs.declared.cell.Cell.{Cell}
use Rattle.std.proofs.lemmas.List.{append-nil, take_all}
use Rattle.coder_core.specs.Symbols.{cells_bytes}
use Rattle.coder_core.proofs.SymbolBytes.{cells_bytes-nil, cells_bytes-more, two-more}
use Rattle.coder_core.proofs.symbols.put_cells.Goals as goal

abbrev zero_cell : Cell
zero_cell = record { i = pos 0; q = pos 0 }

pub loop-k-init : goal.loop-k-init
loop-k-init c = record {
  room = c.requires;
  bytes = ap (λ n. take n c.args.out.now) (let e : c.args.at + 0 ≡ c.args.at = omega arith in e)
      ∙ sym (append-nil (take c.args.at c.args.out.now)) ∙ ap (λ xs. take c.args.at c.args.out.now ++ xs) (sym cells_bytes-nil);
}

pub loop-k-preserved : goal.loop-k-preserved
loop-k-preserved c =
    let cell = get_or c.args.cells.now c.loop-k.k zero_cell in
    let i_is : c.cast_unsigned.result ≡ cast_unsigned w8 cell.i = search (arith, ints, to_z-of_z, c.cast_unsigned.ensures) in
    let q_is : c.cast_unsigned-in-loop-k.result ≡ cast_unsigned w8 cell.q = search (arith, ints, to_z-of_z, c.cast_unsigned-in-loop-k.ensures) in
    let start = take c.args.at c.args.out.now in
    let out = c.loop-k.out in
    let n = c.args.at + 2 * c.loop-k.k in
    let x = c.cast_unsigned.result in
    let y = c.cast_unsigned-in-loop-k.result in
    let next : c.loop-k.k + 1 ≤ length c.args.cells.now = omega arith in
    let end : c.args.at + 2 * (c.loop-k.k + 1) ≡ n + 2 = omega arith in
    let fits : n + 2 ≤ length out = omega (arith, next, c.loop-k.invariant.room) in
    record {
      room = (let e = length-set (set out n x) (n + 1) y in let e' = length-set out n x in omega (arith, e, e', c.loop-k.invariant.room));
      bytes = two-more out n (n + 1) (c.args.at + 2 * (c.loop-k.k + 1)) x y refl end (omega (arith, end, fits))
          ∙ ap (λ xs. xs ++ (x ∷ y ∷ [])) c.loop-k.invariant.bytes
          ∙ append_assoc start (cells_bytes (take c.loop-k.k c.args.cells.now)) (x ∷ y ∷ [])
          ∙ ap (λ b. start ++ (cells_bytes (take c.loop-k.k c.args.cells.now) ++ (b ∷ y ∷ []))) i_is
          ∙ ap (λ b. start ++ (cells_bytes (take c.loop-k.k c.args.cells.now) ++ (cast_unsigned w8 cell.i ∷ b ∷ []))) q_is
          ∙ ap (λ xs. start ++ xs) (sym (cells_bytes-more c.args.cells.now c.loop-k.k zero_cell c.loop-k-test.true));
    }

pub returns : goal.returns
returns c =
    let end : c.loop-k.k ≡ length c.args.cells.now = omega arith in
    record {
      end = refl;
      bytes = ap (λ n. take (c.args.at + 2 * n) c.loop-k.out) (sym end) ∙ c.loop-k.invariant.bytes
          ∙ ap (λ xs. take c.args.at c.args.out.now ++ cells_bytes xs) (take_all c.loop-k.k c.args.cells.now (omega arith));
    }
