use Rattle.std.proofs.Common.{◌≡◌, ℕ, ◌+◌, ◌-◌, arith, ap, sym, ◌∙◌, subst}
use Rattle.std.proofs.lemmas.List.{with_items_is}
use Rattle.isdbt_base.specs.declared.kinds.Mode.TheVariants.{M1}
use Rattle.isdbt_base.specs.declared.epoch.At.{At}
use Rattle.isdbt_base.specs.Frames.{FramePackets}
use Rattle.isdbt_base.specs.Plans.{at_frame}
use Rattle.isdbt_base.proofs.PlanEpochs.{epoch_start-le}
use Rattle.coder_core.specs.Coder as coder
use Rattle.coder_core.specs.Coder.{IsFrameOf}
use Rattle.coder_core.proofs.EpochSteps.{same_next, of_next, stands-next}
use Rattle.seg_receiver.specs.Receiver.{mode_of, guard_of, setting_of, StandsFor}
use Rattle.sample.specs.SpoiledCells.{sent_cells, spoiled}
use Rattle.sample.specs.Chain.{StandsAt}
use Rattle.sample.proofs.Negations.{sent-negation}
use Rattle.sample.proofs.ReceivedFrames.{out-is, shows-sent, at-next}
use Rattle.sample.proofs.chain.Chain.pass.Goals as goal

pub returns-clause-of : goal.returns-clause-of
returns-clause-of c = λ same.
    let p = c.args.plan.now in
    let f = c.args.frame in
    let alike = same_next p f c.acceptance_law.ensures same in
    record {
      coder_of = of_next c.args.self.now.coder c.frame.new.self p f c.acceptance_law.ensures c.frame.ensures.mode c.frame.ensures.guard c.frame.ensures.setting c.requires.of.coder_of same;
      mode = c.frame-2.ensures.mode ∙ c.feed.ensures.mode ∙ c.requires.of.mode ∙ ap (λ (a : At). a.mode) alike;
      guard = c.frame-2.ensures.guard ∙ c.feed.ensures.guard ∙ c.requires.of.guard ∙ ap (λ (a : At). a.guard) alike;
      setting = c.frame-2.ensures.setting ∙ c.feed.ensures.setting ∙ c.requires.of.setting ∙ ap (λ (a : At). a.setting) alike;
      fresh = c.frame-2.ensures.symbols;
    }

module _ (c : goal.After-buffers-3-1) (frames : FramePackets) (stands : StandsAt c.args.plan.now frames c.args.frame c.args.self.now)
    (is : IsFrameOf (at_frame c.args.plan.now c.args.frame).setting (at_frame c.args.plan.now c.args.frame).mode c.args.broadcast.now frames c.args.frame) where
  abbrev start : ℕ
  start = (at_frame c.args.plan.now c.args.frame).start

  abbrev h : ℕ
  h = c.args.frame - start

  here : start + h ≡ c.args.frame
  here = (let least = epoch_start-le c.args.plan.now c.args.frame in omega (arith, least))

  -- the packets are those of the coder's next frame
  frame-of : IsFrameOf (coder.setting_of c.args.self.now.coder) (coder.mode_of c.args.self.now.coder) c.args.broadcast.now frames (start + h)
  frame-of =
      subst (λ s. IsFrameOf s (coder.mode_of c.args.self.now.coder) c.args.broadcast.now frames (start + h)) (sym c.requires.of.coder_of.setting)
      (subst (λ m. IsFrameOf (at_frame c.args.plan.now c.args.frame).setting m c.args.broadcast.now frames (start + h)) (sym c.requires.of.coder_of.mode)
      (subst (IsFrameOf (at_frame c.args.plan.now c.args.frame).setting (at_frame c.args.plan.now c.args.frame).mode c.args.broadcast.now frames) (sym here) is))

  -- the receiver has seen the frame
  fed : StandsFor c.feed.new.receiver (spoiled (sent_cells c.args.plan.now frames)) start h
  fed =
      c.feed.ensures.state (sent_cells c.args.plan.now frames) start h here (sent-negation c.args.plan.now frames c.args.frame) stands.receiver_stands
      (shows-sent c.args.plan.now frames c.args.frame (coder.mode_of c.args.self.now.coder) M1 (coder.setting_of c.args.self.now.coder) c.word_at-word.result c.deref.result.now
      c.requires.of.coder_of.mode c.requires.of.coder_of.setting (sym c.requires.mode) c.word_at-word.ensures
      (c.deref.ensures.value ∙ with_items_is c.args.buffers.now.symbols c.frame.new.out (omega arith) ∙ c.frame.ensures.cells frames start h stands.coder_stands frame-of))

pub returns-clause-given : goal.returns-clause-given
returns-clause-given c = λ frames count stands is.
    let r = c.feed.new.receiver in
    with_items_is c.args.buffers.now.out c.frame-2.new.out (omega arith)
    ∙ out-is c.args.plan.now frames count c.args.frame c.acceptance_law.ensures (mode_of r) (guard_of r) (setting_of r) c.tag_at-tag.result (h c frames stands is) c.frame-2.new.out
    (c.feed.ensures.mode ∙ c.requires.of.mode) (c.feed.ensures.guard ∙ c.requires.of.guard) (c.feed.ensures.setting ∙ c.requires.of.setting) c.tag_at-tag.ensures (here c frames stands is)
    (c.frame-2.ensures.frame (spoiled (sent_cells c.args.plan.now frames)) (start c frames stands is) (h c frames stands is) (fed c frames stands is))

pub returns-clause-stands : goal.returns-clause-stands
returns-clause-stands c = λ frames stands is same.
    let p = c.args.plan.now in
    let f = c.args.frame in
    let cells = spoiled (sent_cells p frames) in
    record {
      coder_stands = stands-next c.frame.new.self p frames f c.acceptance_law.ensures
          (c.frame.ensures.state frames (start c frames stands is) (h c frames stands is) stands.coder_stands (frame-of c frames stands is)) same;
      receiver_stands = at-next (StandsFor c.frame-2.new.self cells) p f c.acceptance_law.ensures (c.frame-2.ensures.state cells (start c frames stands is) (h c frames stands is) (fed c frames stands is)) same;
    }
