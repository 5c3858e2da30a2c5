-- What the command says of a frame where the first head was found.
use Rattle.std.proofs.Common.{◌≡◌, ℕ, ◌-◌, Bool, true, false, List, [], ◌∷◌, ◌++◌, refl, ap, ◌∙◌}
use Rattle.std.specs.Prelude.{Some, None, ◌==◌, if◌then◌else◌}
use Rattle.std.specs.declared.option.Option.{Option}
use Rattle.isdbt_base.specs.Outcome.{first_some}
use Rattle.isdbt_base.specs.declared.stream.Writing.{Writing}
use Rattle.isdbt_base.specs.Plans.{Schedule, at_frame}
use Rattle.coder_core.specs.declared.fault.CodeFault.{CodeFault}
use Rattle.setting_words.specs.Lines.{bts_line}
use Rattle.coder_core.specs.InputFrames.{first_head, frame_at, input_frames}
use Rattle.coder_core.specs.ShownFrames.{shown, shown_from, shown_frame}
use Rattle.coder_core.specs.SentCells.{sent_head, sent_frame, epoch_frame_cells, frame_cells, plan_word}
use Rattle.coder_core.specs.CodeRefusals.{search_refusal, FrameCut, has_byte_of, frame_refusal, refusal_from, stream_refusal, there_from, has_frame, frames_from, coded_frame}

pub first_some-one : (x : Option CodeFault) → first_some (x ∷ []) ≡ x
first_some-one None = refl
first_some-one (Some y) = refl

after-none : (a b : Option CodeFault) → a ≡ None → first_some (a ∷ b ∷ []) ≡ b
after-none a b none = rw none (first_some-one b)

none-either : (b : Bool) (x : Option CodeFault) → x ≡ None → (if b then x else None) ≡ None
none-either true x none = none
none-either false x none = refl

pub refusal-found : (c : FrameCut) (input : List ℕ) (limit head f : ℕ) → first_head input ≡ Some head → search_refusal input ≡ None → stream_refusal c input limit f ≡ frame_refusal c input limit head f
unfolding stream_refusal
refusal-found c input limit head f found searched =
    after-none (if f == 0 then search_refusal input else None) (refusal_from c input limit f (first_head input)) (none-either (f == 0) (search_refusal input) searched)
    ∙ ap (refusal_from c input limit f) found

pub there-found : (slots : ℕ → ℕ) (input : List ℕ) (head f : ℕ) → first_head input ≡ Some head → has_frame slots input f ≡ has_byte_of slots input head f
unfolding has_frame
there-found slots input head f found = ap (there_from slots input f) found

pub coded-found : (how : Writing) (p : Schedule) (input : List ℕ) (head f : ℕ) → first_head input ≡ Some head
    → coded_frame how p input f ≡ sent_head how p f ++ epoch_frame_cells (at_frame p f).mode (at_frame p f).setting (input_frames p input head) (at_frame p f).start (f - (at_frame p f).start) (plan_word p f)
unfolding coded_frame sent_frame frame_cells
coded-found how p input head f found =
    ap (λ o. sent_head how p f ++ epoch_frame_cells (at_frame p f).mode (at_frame p f).setting (frames_from p input o) (at_frame p f).start (f - (at_frame p f).start) (plan_word p f)) found

pub shown-found : (slots : ℕ) (input : List ℕ) (head f : ℕ) → first_head input ≡ Some head → shown_frame slots input f ≡ bts_line (shown f (frame_at (λ g. slots) input head f))
unfolding shown_frame
shown-found slots input head f found = ap (shown_from slots input f) found
