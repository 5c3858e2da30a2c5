use Rattle.std.proofs.Common.{◌≡◌, ℕ, List, ◌+◌, ◌-◌, ◌*◌, ◌≤◌, ◌<◌, ◌++◌, length, take, drop, ap, subst, ◌∙◌, arith, length-drop}
use Rattle.std.proofs.lemmas.List.{length-take-le}
use Rattle.std.proofs.lemmas.Result.{on_ok_weaker, on_err_weaker}
use Rattle.std.proofs.lemmas.Slice.{take-put_mid}
use borrow.Rule.Slice.PartMut.{put_mid}
use Rattle.isdbt_base.specs.declared.epoch.At.{At}
use Rattle.isdbt_base.specs.Numbers.{carriers}
use Rattle.isdbt_base.specs.Plans.{at_frame}
use Rattle.edge_io.specs.Known.{append_known}
use Rattle.coder_core.specs.SentCells.{epoch_frame_cells}
use Rattle.coder_core.specs.Coder.{mode_of, setting_of}
use Rattle.coder_core.proofs.frames.write_cells.Goals as goal

-- the front of the buffer is the head and the cells behind it
front-sent : (head cells buffer out : List ℕ) (h size : ℕ) → take h buffer ≡ head → h + size ≤ length buffer → out ≡ cells → length out ≡ length (take (h + size - h) (drop h buffer))
    → take (h + size) (put_mid h (h + size - h) buffer out) ≡ head ++ cells
front-sent head cells buffer out h size begins fits is same =
    let rest = length-drop h buffer in
    let whole = length-take-le (h + size - h) (drop h buffer) (omega (arith, rest, fits)) in
    take-put_mid h (h + size - h) buffer out (h + size) (omega (arith, same, whole)) (omega (arith, fits)) ∙ ap (λ xs. xs ++ out) begins ∙ ap (λ xs. head ++ xs) is

pub returns-clause-ok : goal.returns-clause-ok
returns-clause-ok g c = on_ok_weaker c.write_whole.result (λ written frames start n stands is.
    let p = c.args.sending.plan.now in
    let of : c.symbol_size.result ≡ 1 + 26 * carriers (at_frame p c.args.number).mode = c.symbol_size.ensures.value ∙ ap (λ (a : At). 1 + 26 * carriers a.mode) c.at.ensures.value in
    let fits : c.put_head-head.result + 204 * c.symbol_size.result ≤ length c.put_head-head.new.buffer = omega (arith, of, c.requires.room, c.put_head-head.ensures.most, c.put_head-head.auto.buffer) in
    let cells = c.frame.ensures.cells frames start n stands is ∙ ap (epoch_frame_cells (mode_of c.args.coder.now) (setting_of c.args.coder.now) frames start n) c.word_at.ensures in
    written ∙ ap (append_known (g.K.Sink.written c.args.sink.now)) (front-sent _ _ _ _ _ _ c.put_head-head.ensures.bytes fits cells c.frame.auto.out)) c.write_whole.ensures.ok

pub returns-clause-some : goal.returns-clause-some
returns-clause-some g c = on_err_weaker c.write_whole.result (λ some frames start n stands is.
    let p = c.args.sending.plan.now in
    let of : c.symbol_size.result ≡ 1 + 26 * carriers (at_frame p c.args.number).mode = c.symbol_size.ensures.value ∙ ap (λ (a : At). 1 + 26 * carriers a.mode) c.at.ensures.value in
    let fits : c.put_head-head.result + 204 * c.symbol_size.result ≤ length c.put_head-head.new.buffer = omega (arith, of, c.requires.room, c.put_head-head.ensures.most, c.put_head-head.auto.buffer) in
    let cells = c.frame.ensures.cells frames start n stands is ∙ ap (epoch_frame_cells (mode_of c.args.coder.now) (setting_of c.args.coder.now) frames start n) c.word_at.ensures in
    subst (λ (out : List ℕ). (n : ℕ) × (n < length out) × (g.K.Sink.written c.write_whole.new.sink ≡ append_known (g.K.Sink.written c.args.sink.now) (take n out)))
    (front-sent _ _ _ _ _ _ c.put_head-head.ensures.bytes fits cells c.frame.auto.out) some) c.write_whole.ensures.some
