use Rattle.std.proofs.Common.{◌≡◌, ◌+◌, drop, true, refl, ap, sym, subst, arith}
use Rattle.std.proofs.lemmas.Bool.{eq-eqb}
use Rattle.isdbt_base.specs.declared.kinds.Mode.{Mode}
use Rattle.isdbt_base.specs.declared.kinds.Guard.{Guard}
use Rattle.tmcc_word.specs.Fields.{TmccFields}
use Rattle.seg_receiver.specs.Aims.{aim_of}
use Rattle.seg_receiver.specs.CellStream.{view_of}
use Rattle.seg_receiver.specs.EpochReceiver.{IsReceiverOf}
use Rattle.seg_receiver.specs.ReceiveAnswers.{given_frame}
use Rattle.seg_receiver.specs.FrameReading.{ShowsFrame}
use Rattle.seg_receiver.proofs.SymbolPlaces.{shows-front}
use Rattle.seg_receiver.proofs.ViewLaws.{laid}
use Rattle.seg_receiver.proofs.BufferRoom.{frame-fits, cells-fit_of, room-fits}
use Rattle.seg_receiver.proofs.EpochParts.{mode-is}
use Rattle.seg_receiver.proofs.EpochProgress.{is-given, first_in, wrote_all, wrote_some}
use Rattle.seg_receiver.proofs.ReceiveProgress.{write-failed}
use Rattle.seg_receiver.proofs.epochs.receive_held.Goals as goal

pub returns-in-Err-clause-answer : goal.returns-in-Err-clause-answer
returns-in-Err-clause-answer g c = λ stream last known first at taken.
    let v = view_of c.args.epoch.how stream in
    let said : Mode × Guard = (c.args.epoch.mode, c.args.epoch.guard) in
    let number = c.args.number in
    let cell = v.cell in
    let word = c.args.word.now in
    let frame = c.args.buffers.now.frame.items in
    let here : number + 0 ≡ number = omega arith in
    let held = subst (λ f. ShowsFrame c.args.epoch.mode cell f frame) (sym here) (shows-front c.args.epoch.mode cell number (drop (v.starts number + v.head) stream) frame taken.frame_is (subst (λ m. ShowsFrame m cell number (drop (v.starts number + v.head) stream)) taken.mode ((laid c.args.epoch.how.fix c.args.epoch.how.form stream).shows number))) in
    let shows = subst (ShowsFrame c.args.epoch.mode cell (number + 0)) (sym c.deref.ensures.value) held in
    let fed = c.feed_held.ensures.state cell number 0 (c.in-Ok.ensures.state cell number) shows in
    let opened = subst (λ u. IsReceiverOf c.args.epoch.partial said.0 said.1 u c.in-Ok.receiver) (ap (λ (i : TmccFields). i.now) c.info.view_is) c.in-Ok.ensures.receiver in
    let kind = c.feed_held.ensures.kept c.args.epoch.partial said.0 said.1 word.0.now opened in
    let is = is-given v c.args.epoch.partial number number 0 said word true taken.mode taken.guard taken.word_is (at.begun c.requires.below) here (eq-eqb number number refl) in
    let failed = c.in-Err.ensures.some c.args.epoch.partial said.0 said.1 word.0.now cell number 0 kind fed in
    let part = wrote_some _ (given_frame v (aim_of c.args.epoch.partial) number) failed.0 (g.K.Sink.written c.args.sink.now) (g.K.Sink.written c.write_received.new.sink) is failed.1 failed.2 in
    write-failed v (aim_of c.args.epoch.partial) stream c.args.epoch.limit number failed.0 said last word frame known _ first (g.K.Sink.written c.args.sink.now) _ at.so_far taken part.0 part.1

pub returns-clause-answer : goal.returns-clause-answer
returns-clause-answer g c = λ stream last known first at taken.
    let v = view_of c.args.epoch.how stream in
    let said : Mode × Guard = (c.args.epoch.mode, c.args.epoch.guard) in
    let number = c.args.number in
    let cell = v.cell in
    let word = c.args.word.now in
    let frame = c.args.buffers.now.frame.items in
    let here : number + 0 ≡ number = omega arith in
    let held = subst (λ f. ShowsFrame c.args.epoch.mode cell f frame) (sym here) (shows-front c.args.epoch.mode cell number (drop (v.starts number + v.head) stream) frame taken.frame_is (subst (λ m. ShowsFrame m cell number (drop (v.starts number + v.head) stream)) taken.mode ((laid c.args.epoch.how.fix c.args.epoch.how.form stream).shows number))) in
    let shows = subst (ShowsFrame c.args.epoch.mode cell (number + 0)) (sym c.deref.ensures.value) held in
    let fed = c.feed_held.ensures.state cell number 0 (c.in-Ok.ensures.state cell number) shows in
    let opened = subst (λ u. IsReceiverOf c.args.epoch.partial said.0 said.1 u c.in-Ok.receiver) (ap (λ (i : TmccFields). i.now) c.info.view_is) c.in-Ok.ensures.receiver in
    let kind = c.feed_held.ensures.kept c.args.epoch.partial said.0 said.1 word.0.now opened in
    let is = is-given v c.args.epoch.partial number number 0 said word true taken.mode taken.guard taken.word_is (at.begun c.requires.below) here (eq-eqb number number refl) in
    let wrote = wrote_all _ (given_frame v (aim_of c.args.epoch.partial) number) (g.K.Sink.written c.args.sink.now) (g.K.Sink.written c.write_received.new.sink) is (c.in-Ok-write_received.ensures.ok c.args.epoch.partial said.0 said.1 word.0.now cell number 0 kind fed) in
    let so_far = first_in v (aim_of c.args.epoch.partial) stream c.args.epoch.limit number said last word frame known _ first (g.K.Sink.written c.args.sink.now) (g.K.Sink.written c.write_received.new.sink) c.requires.below at taken wrote in
    let stands = c.write_received.ensures.state cell number 0 fed in
    c.receive_further.ensures.answer stream number 1 first refl (omega arith) stands so_far

pub write_received-requires-clause-room : goal.write_received-requires-clause-room
write_received-requires-clause-room g c =
    let e = c.args.epoch in
    let fits = room-fits e.how.form e.partial e.mode e.guard _ c.feed_held.new.receiver c.args.buffers.now (c.feed_held.ensures.kept e.partial e.mode e.guard _ c.in-Ok.ensures.receiver) c.requires.can_have c.requires.room in
    let len = c.deref_mut-2.ensures.len in
    omega (arith, fits, len)

pub feed_held-requires-clause-mode : goal.feed_held-requires-clause-mode
feed_held-requires-clause-mode g c = mode-is c.args.epoch.partial c.args.epoch.mode c.args.epoch.guard _ c.in-Ok.receiver c.in-Ok.ensures.receiver

pub feed_held-requires-clause-size : goal.feed_held-requires-clause-size
feed_held-requires-clause-size g c =
    let fits = frame-fits c.args.epoch.how.form c.args.epoch.mode c.args.epoch.guard c.args.buffers.now c.requires.can_have c.requires.room in
    let len = c.deref.ensures.len in
    omega (arith, fits, len)

pub feed_held-requires-clause-room : goal.feed_held-requires-clause-room
feed_held-requires-clause-room g c =
    let fits = cells-fit_of c.args.epoch.how.form c.args.epoch.mode c.args.epoch.guard c.in-Ok.receiver c.args.buffers.now c.requires.can_have c.requires.room in
    let len = c.deref_mut.ensures.len in
    omega (arith, fits, len)
