-- Views that differ in nothing that is read.
use Rattle.std.proofs.Common.{◌≡◌, ℕ, zero, suc, ◌+◌, ◌≤◌, ◌<◌, ◌⊎◌, [], refl, ap, sym, ◌∙◌, subst, arith, inl, inr, None}
use Rattle.std.specs.declared.option.Option.{Option}
use Rattle.std.proofs.lemmas.Bool.{cases_lt}
use Rattle.std.proofs.lemmas.Bool.Decides.{eqb_tells}
use Rattle.isdbt_base.specs.Numbers.{carriers}
use Rattle.isdbt_base.specs.Outcome.{ArePassed, IsOutcome, product}
use Rattle.isdbt_base.proofs.RangeLaws.{flat_map-same}
use Rattle.tmcc_word.specs.Reading.{read, ok_part}
use Rattle.seg_receiver.specs.declared.aim.Aim.{Aim}
use Rattle.seg_receiver.specs.declared.aim.Aim.TheVariants.{Full, Partial, Lines}
use Rattle.seg_receiver.specs.declared.fault.ReceiveFault.{ReceiveFault}
use Rattle.seg_receiver.specs.CellStream.{View}
use Rattle.seg_receiver.specs.Epochs.{countdown_read, epoch_start}
use Rattle.seg_receiver.specs.FrameLines.{restored, word_line, frame_line}
use Rattle.seg_receiver.specs.ReceiveRefusals.{receive_is_there, word_before, receive_refusal}
use Rattle.seg_receiver.specs.ReceiveAnswers.{given_frame}
use Rattle.seg_receiver.proofs.ReceiveProgress.{head-passed}
use Rattle.seg_receiver.proofs.StableFrames.{IsAlikeAt, epoch_start-same, received_frame-alike, partial_frame-alike}

-- two views read alike, and of the first a head within an epoch says what the one before says
pub record ReadAlike (v w : View) : Type 0 where
  pub size : v.size ≡ w.size
  pub starts : (f : ℕ) → v.starts f ≡ w.starts f
  pub head : v.head ≡ w.head
  pub mode : (f : ℕ) → v.mode f ≡ w.mode f
  pub guard : (f : ℕ) → v.guard f ≡ w.guard f
  pub says : (f : ℕ) → read (v.word f) ≡ read (w.word f)
  pub restored : (f : ℕ) → restored v.fix (v.came f) ≡ restored w.fix (w.came f)
  pub bad : (f : ℕ) → v.bad_head f ≡ w.bad_head f
  pub cells : (f k segment carrier : ℕ) → k < 204 → segment < 13 → carrier < carriers (v.mode f) → v.cell f k segment carrier ≡ w.cell f k segment carrier
  pub keeps : (f : ℕ) → v.bad_head (suc f) ≡ None → (epoch_start v.word (suc f) ≡ suc f → ⊥) → v.mode (suc f) ≡ v.mode f

module _ (v w : View) (alike : ReadAlike v w) where
  -- ---- refusals

  pub there-alike : (f : ℕ) → receive_is_there v f ≡ receive_is_there w f
  there-alike f = rw (alike.starts f, alike.size) refl

  before-alike : (f : ℕ) → word_before v f ≡ word_before w f
  before-alike zero = refl
  before-alike (suc f) = ap ok_part (alike.says f)

  pub refusal-alike : (aim : Aim) (limit f : ℕ) → receive_refusal v aim limit f ≡ receive_refusal w aim limit f
  unfolding receive_refusal
  refusal-alike aim limit f = rw (alike.starts f, alike.starts (f + 1), alike.size, alike.head, alike.bad f, before-alike f, alike.says f) refl

  -- ---- the mode within an epoch

  -- a frame begins an epoch, or is in that of the frame before
  begun-cases : (f : ℕ) → (epoch_start v.word (suc f) ≡ suc f) ⊎ (epoch_start v.word (suc f) ≡ epoch_start v.word f)
  unfolding epoch_start
  begun-cases f =
      elim (eqb_tells (countdown_read (read (v.word f))) 0) [
        | inl none ↦ inl (rw none.0 refl)
        | inr some ↦ inr (rw some.0 refl)
      ]

  mode-kept : (f g : ℕ) → ((h : ℕ) → h ≤ f → v.bad_head h ≡ None) → epoch_start v.word f ≤ g → g ≤ f → v.mode g ≡ v.mode f
  mode-kept zero g fine from to = ap v.mode (let e : g ≡ 0 = omega (arith, to) in e)
  mode-kept (suc f) g fine from to =
      elim (cases_lt g (suc f)) [
        | inr last ↦ ap v.mode (let e : g ≡ suc f = omega (arith, last, to) in e)
        | inl less ↦ (
            let other : epoch_start v.word (suc f) ≡ suc f → ⊥ = λ e. omega (arith, e, from, less) in
            let begun : epoch_start v.word (suc f) ≡ epoch_start v.word f = elim (begun-cases f) [ inl first ↦ absurd (other first) | inr on ↦ on ] in
            mode-kept f g (λ h le. fine h (omega (arith, le))) (omega (arith, begun, from)) (omega (arith, less)) ∙ sym (alike.keeps f (fine (suc f) (omega arith)) other))
      ]

  -- ---- what is given out

  -- up to a frame no head is refused
  alike-at : (f : ℕ) → ((h : ℕ) → h ≤ f → v.bad_head h ≡ None) → IsAlikeAt f v w
  alike-at f fine = record {
    mode = alike.mode f;
    guard = alike.guard f;
    says = alike.says f;
    begun = epoch_start-same v.word w.word f (λ g h. alike.says g);
    cells = λ g k segment carrier from to l s c. alike.cells g k segment carrier l s (subst (λ m. carrier < carriers m) (sym (mode-kept f g fine from to)) c);
  }

  line-alike : (f : ℕ) → frame_line v f ≡ frame_line w f
  unfolding frame_line
  line-alike f =
      ap (λ m. word_line m f (restored v.fix (v.came f)) (read (v.word f))) (alike.mode f)
      ∙ ap (λ n. word_line (w.mode f) f n (read (v.word f))) (alike.restored f)
      ∙ ap (word_line (w.mode f) f (restored w.fix (w.came f))) (alike.says f)

  given-alike : (aim : Aim) (f : ℕ) → ((h : ℕ) → h ≤ f → v.bad_head h ≡ None) → given_frame v aim f ≡ given_frame w aim f
  given-alike Full f fine = received_frame-alike v w f (alike-at f fine)
  given-alike Partial f fine = partial_frame-alike v w f (alike-at f fine)
  given-alike Lines f fine = line-alike f

  -- ---- outcomes

  pub outcome-alike : (aim : Aim) (limit count : ℕ) (fault : Option ReceiveFault) → IsOutcome (receive_refusal v aim limit) (receive_is_there v) count fault → IsOutcome (receive_refusal w aim limit) (receive_is_there w) count fault
  outcome-alike aim limit count fault outcome = record {
    before = λ f less. (let passed = outcome.before f less in (sym (refusal-alike aim limit f) ∙ passed.0, sym (there-alike f) ∙ passed.1));
    at = sym (refusal-alike aim limit count) ∙ outcome.at;
    done = λ none. sym (there-alike count) ∙ outcome.done none;
  }

  pub product-alike : (aim : Aim) (limit count : ℕ) → ArePassed (receive_refusal v aim limit) (receive_is_there v) count → product (given_frame v aim) count ≡ product (given_frame w aim) count
  unfolding product
  product-alike aim limit count passed =
      flat_map-same (given_frame v aim) (given_frame w aim) 0 count (λ f a less. given-alike aim f (λ h le. (let p = passed h (omega (arith, le, less)) in head-passed v aim [] limit h p.1 p.0)))
