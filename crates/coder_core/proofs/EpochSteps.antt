-- What a coder stands for from one frame of a plan to the next.
use Rattle.std.proofs.Common.{◌≡◌, ℕ, ◌+◌, ◌-◌, ◌≤◌, ◌<◌, Bool, true, false, List, ◌++◌, refl, ap, sym, ◌∙◌, subst, arith, inl, inr}
use Rattle.std.specs.Prelude.{Some, None, ◌==◌, ◌&&◌, nat_lt}
use Rattle.std.specs.declared.option.Option.{Option}
use Rattle.std.proofs.lemmas.Bool.{cases_lt, lt-ltb, eq-eqb, eqb-true}
use Rattle.isdbt_base.specs.declared.kinds.Mode.{Mode}
use Rattle.isdbt_base.specs.declared.epoch.At.{At}
use Rattle.isdbt_base.specs.Parameters.{Parameters}
use Rattle.isdbt_base.specs.declared.stream.Writing.{Writing}
use Rattle.isdbt_base.specs.Plans.{Schedule, at_frame, IsPlan}
use Rattle.isdbt_base.specs.Epochs.{begins_later}
use Rattle.isdbt_base.specs.Frames.{FramePackets}
use Rattle.isdbt_base.proofs.PlanEpochs.{epoch_start-le}
use Rattle.isdbt_base.proofs.EpochLaws.{IsBefore, at_other, epoch_frame, epoch_end}
use Rattle.edge_io.specs.Known.{append_known}
use Rattle.coder_core.specs.declared.coder.Coder.{Coder}
use Rattle.coder_core.specs.InputFrames.{first_head, packet_in, input_frames}
use Rattle.coder_core.specs.SentCells.{sent_head, epoch_frame_cells, plan_word}
use Rattle.coder_core.specs.CodeRefusals.{coded_frame}
use Rattle.coder_core.specs.Coder.{mode_of, guard_of, setting_of, IsFrameOf, StandsFor}
use Rattle.coder_core.specs.FrameSteps.{Taken, IsOfFrame, StandsAt, coding_run, AtFrame}
use Rattle.coder_core.proofs.FoundHead.{coded-found}
use Rattle.coder_core.proofs.CodeProgress.{next}

-- ---- epochs

begins : (p : Schedule) (f : ℕ) → 0 < f → (at_frame p f).start ≡ f → begins_later p f ≡ true
begins p f some is = rw (lt-ltb 0 f some, eq-eqb (at_frame p f).start f is) refl

-- an epoch begins with its first frame
pub begun-start : (p : Schedule) (f : ℕ) → begins_later p f ≡ true → (at_frame p f).start ≡ f
begun-start p f is = go (nat_lt 0 f) is
  where
    go : (b : Bool) → (b && ((at_frame p f).start == f)) ≡ true → (at_frame p f).start ≡ f
    go true e = eqb-true (at_frame p f).start f e
    go false e = absurd (cc)

before_end : (f g : ℕ) (o : Option ℕ) → ((e : ℕ) → o ≡ Some e → g < e) → f ≤ g → IsBefore f o
before_end f g None h le = tt
before_end f g (Some e) h le = (let less = h e refl in omega (arith, less, le))

-- where no epoch begins with the next frame, the two are sent alike
pub same_next : (p : Schedule) (f : ℕ) → IsPlan p → begins_later p (f + 1) ≡ false → at_frame p f ≡ at_other (at_frame p (f + 1)) f
same_next p f plan same =
    let start = (at_frame p (f + 1)).start in
    let most = epoch_start-le p (f + 1) in
    epoch_frame p (f + 1) f plan
    (elim (cases_lt start (f + 1)) [
      | inl less ↦ omega (arith, less)
      | inr le ↦ absurd (let is : start ≡ f + 1 = omega (arith, le, most) in let begun = begins p (f + 1) (omega arith) is in cc)
    ])
    (before_end f (f + 1) (at_frame p (f + 1)).end (λ e is. (epoch_end p (f + 1) e plan is).after) (omega arith))

-- ---- the coder

-- the coder of a frame is that of the next, if no epoch begins there
pub of_next : (c c' : Coder) (p : Schedule) (f : ℕ) → IsPlan p → mode_of c' ≡ mode_of c → guard_of c' ≡ guard_of c → setting_of c' ≡ setting_of c → IsOfFrame c p f → begins_later p (f + 1) ≡ false → IsOfFrame c' p (f + 1)
of_next c c' p f plan mode guard setting of same =
    let alike = same_next p f plan same in
    record {
      mode = mode ∙ of.mode ∙ ap (λ (a : At). a.mode) alike;
      guard = guard ∙ of.guard ∙ ap (λ (a : At). a.guard) alike;
      setting = setting ∙ of.setting ∙ ap (λ (a : At). a.setting) alike;
    }

-- what it stands for behind a frame it stands for at the next, if no epoch begins there
pub stands-next : (c : Coder) (p : Schedule) (frames : FramePackets) (f : ℕ) → IsPlan p → StandsFor c frames (at_frame p f).start (f - (at_frame p f).start + 1) → begins_later p (f + 1) ≡ false → StandsAt c p frames (f + 1)
stands-next c p frames f plan stands same =
    let least = epoch_start-le p f in
    let start : (at_frame p f).start ≡ (at_frame p (f + 1)).start = ap (λ (a : At). a.start) (same_next p f plan same) in
    let count : f - (at_frame p f).start + 1 ≡ f + 1 - (at_frame p (f + 1)).start = omega (arith, least, start) in
    subst (λ n. StandsFor c frames n (f + 1 - (at_frame p (f + 1)).start)) start (subst (StandsFor c frames (at_frame p f).start) count stands)

-- a coder that has seen no frame stands for what precedes the first frame of an epoch
pub stands-fresh : (c : Coder) (p : Schedule) (frames : FramePackets) (f : ℕ) → f ≤ (at_frame p f).start → StandsFor c frames (at_frame p f).start 0 → StandsAt c p frames f
stands-fresh c p frames f first stands = subst (StandsFor c frames (at_frame p f).start) (let none : 0 ≡ f - (at_frame p f).start = omega (arith, first) in none) stands

-- ---- what a coder that is that of a frame makes of it

-- the packets of the frame are those of the buffer
pub is_frame : (how : Writing) (p : Schedule) (input : List ℕ) (limit head f : ℕ) (frame : List ℕ) (left before now : Option (List ℕ)) (s : Parameters) (mode : Mode) → Taken (coding_run how p input limit head) f frame left before now
    → IsFrameOf s mode frame (input_frames p input head) ((at_frame p f).start + (f - (at_frame p f).start))
is_frame how p input limit head f frame left before now s mode t =
    let least = epoch_start-le p f in
    subst (IsFrameOf s mode frame (input_frames p input head)) (let here : f ≡ (at_frame p f).start + (f - (at_frame p f).start) = omega (arith, least) in here)
    (record { each = λ x j less. ap (λ xs. packet_in xs x j) (sym t.whole.frame_is) })

pub cells_are : (c : Coder) (how : Writing) (p : Schedule) (input : List ℕ) (head f : ℕ) → first_head input ≡ Some head → IsOfFrame c p f
    → sent_head how p f ++ epoch_frame_cells (mode_of c) (setting_of c) (input_frames p input head) (at_frame p f).start (f - (at_frame p f).start) (plan_word p f) ≡ coded_frame how p input f
cells_are c how p input head f found of =
    let a = at_frame p f in
    let head' = sent_head how p f in
    ap (λ m. head' ++ epoch_frame_cells m (setting_of c) (input_frames p input head) a.start (f - a.start) (plan_word p f)) of.mode
    ∙ ap (λ s. head' ++ epoch_frame_cells a.mode s (input_frames p input head) a.start (f - a.start) (plan_word p f)) of.setting
    ∙ sym (coded-found how p input head f found)

-- what is known behind the writing of a frame
pub coded : (how : Writing) (p : Schedule) (input : List ℕ) (limit head f : ℕ) (c : Coder) (frame other : List ℕ) (left before mid after : Option (List ℕ)) → IsPlan p → Taken (coding_run how p input limit head) f frame left before mid
    → after ≡ append_known mid (coded_frame how p input f) → StandsFor c (input_frames p input head) (at_frame p f).start (f - (at_frame p f).start + 1) → AtFrame how p input limit head (f + 1) 0 c other left before after
coded how p input limit head f c frame other left before mid after plan t wrote stands = record {
  so_far = next (coding_run how p input limit head) f frame other left before mid after t wrote;
  stands = stands-next c p (input_frames p input head) f plan stands;
}
