use Rattle.std.proofs.Common.{◌≡◌, ℕ, ◌<◌, List, length, take, ap, subst, ◌∙◌}
use Rattle.std.proofs.lemmas.Result.{on_ok_weaker, on_err_weaker}
use Rattle.edge_io.specs.Known.{append_known}
use Rattle.seg_receiver.specs.EpochReceiver.{epoch_frame}
use Rattle.seg_receiver.proofs.frames.write_received.Goals as goal

pub returns-clause-ok : goal.returns-clause-ok
returns-clause-ok g c = on_ok_weaker c.write_whole.result (λ written partial m k s cell start h is stands.
    let given = c.put_frame-count.ensures.given partial m k s cell start h is stands ∙ ap (epoch_frame partial m k s cell start h) c.tag_of.ensures in
    written ∙ ap (append_known (g.K.Sink.written c.args.sink.now)) given) c.write_whole.ensures.ok

pub returns-clause-some : goal.returns-clause-some
returns-clause-some g c = on_err_weaker c.write_whole.result (λ some partial m k s cell start h is stands.
    let given = c.put_frame-count.ensures.given partial m k s cell start h is stands ∙ ap (epoch_frame partial m k s cell start h) c.tag_of.ensures in
    subst (λ (out : List ℕ). (n : ℕ) × (n < length out) × (g.K.Sink.written c.write_whole.new.sink ≡ append_known (g.K.Sink.written c.args.sink.now) (take n out))) given some) c.write_whole.ensures.some
