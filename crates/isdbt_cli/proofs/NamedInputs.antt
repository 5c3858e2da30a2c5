-- The inputs that a command names are those that its plan's layers use.
use Rattle.std.proofs.Common.{◌≡◌, ℕ, ◌<◌, List, Bool, true, false, None, Some, refl, ap, ◌∙◌, arith}
use Rattle.std.specs.Prelude.{is_some}
use Rattle.std.specs.declared.option.Option.{Option}
use Rattle.isdbt_base.specs.declared.kinds.Layer.{Layer}
use Rattle.isdbt_base.specs.declared.kinds.Layer.TheVariants.{A, B, C}
use Rattle.isdbt_base.specs.Plans.{Schedule}
use Rattle.edge_io.specs.declared.shelf.Seat.{Seat}
use Rattle.edge_io.specs.declared.shelf.Seat.TheVariants as seats
use Rattle.edge_io.specs.Seats.{OthersKeep}
use Rattle.remux_core.specs.Refusals.{seat_of}
use Rattle.remux_core.specs.Frames.{packets_of}
use Rattle.remux_core.specs.Answers.{IsUsed, Tells}
use Rattle.remux_core.proofs.Places.{used-some, unused-none}
use Rattle.isdbt_cli.specs.CommandLines.{IsRemux}
use Rattle.setting_words.specs.SettingWords.{Word}
use Rattle.isdbt_cli.specs.Run.{layer_names, lone_name, Hold, AreSeated, AreOpened, turn_of, OpenStopped}

some_of : {X : Type 0} (o : Option X) → is_some o ≡ true → (x : X) × (o ≡ Some x)
some_of None e = absurd (cc)
some_of (Some x) e = (x, refl)

none_of : {X : Type 0} (o : Option X) → is_some o ≡ false → o ≡ None
none_of None e = refl
none_of (Some x) e = absurd (cc)

-- a used layer has a name, and an unused one has none
pub used_name : (p : Schedule) (a : Word) (b c : Option Word) (x : Layer) → IsRemux p a b c → IsUsed p x → (n : Word) × (layer_names a b c (seat_of x) ≡ Some n)
used_name p a b c A r used = (a, refl)
used_name p a b c B r used = (let l = used-some p.first B used in some_of b (r.b_used ∙ ap is_some l.1))
used_name p a b c C r used = (let l = used-some p.first C used in some_of c (r.c_used ∙ ap is_some l.1))

unused_name : (p : Schedule) (a : Word) (b c : Option Word) (x : Layer) → IsRemux p a b c → packets_of p.first x ≡ 0 → layer_names a b c (seat_of x) ≡ None
unused_name p a b c A r none = absurd (let e = unused-none p.first A r.plan.first none in cc)
unused_name p a b c B r none = none_of b (r.b_used ∙ ap is_some (unused-none p.first B r.plan.first none))
unused_name p a b c C r none = none_of c (r.c_used ∙ ap is_some (unused-none p.first C r.plan.first none))

pub used_open : (p : Schedule) (a : Word) (b c : Option Word) (holds : Word → Option (List ℕ)) (left : Seat → Option (List ℕ)) (is_open : Seat → Bool) → IsRemux p a b c → AreOpened (layer_names a b c) holds left is_open → (x : Layer) → IsUsed p x → is_open (seat_of x) ≡ true
used_open p a b c holds left is_open r o x used = (let n = used_name p a b c x r used in o.seats.named (seat_of x) n.0 n.1)

pub tells : (p : Schedule) (a : Word) (b c : Option Word) (holds : Word → Option (List ℕ)) (left : Seat → Option (List ℕ)) (is_open : Seat → Bool) (input : Layer → List ℕ) → IsRemux p a b c → AreOpened (layer_names a b c) holds left is_open → Hold holds (layer_names a b c) input → Tells p left input
tells p a b c holds left is_open input r o h = record {
  used = λ x used. (let n = used_name p a b c x r used in o.content (seat_of x) n.0 n.1 ∙ h.named x n.0 n.1);
  unused = λ x none. h.others x (unused_name p a b c x r none);
}

-- ---- a lone input

-- only the seat In was touched, and it wasn't opened
pub lone_stopped : (name : Word) (before after : Seat → Bool) → OthersKeep seats.In before after → ((seat : Seat) → before seat ≡ false) → after seats.In ≡ false → OpenStopped (lone_name name) after seats.In
lone_stopped name before after keep closed none = record { word = name; name_is = refl; earlier = earlier; later = λ other le. all other; others = λ other is. all other }
  where
    all : (seat : Seat) → after seat ≡ false
    all seats.A = keep seats.A (λ e. cc) ∙ closed seats.A
    all seats.B = keep seats.B (λ e. cc) ∙ closed seats.B
    all seats.C = keep seats.C (λ e. cc) ∙ closed seats.C
    all seats.In = none

    earlier : (other : Seat) (n : Word) → lone_name name other ≡ Some n → turn_of other < 3 → after other ≡ true
    earlier seats.A n is less = absurd (cc)
    earlier seats.B n is less = absurd (cc)
    earlier seats.C n is less = absurd (cc)
    earlier seats.In n is less = absurd (omega (arith, less))

-- and it was opened
pub lone_seated : (name : Word) (before after : Seat → Bool) → OthersKeep seats.In before after → ((seat : Seat) → before seat ≡ false) → after seats.In ≡ true → AreSeated (lone_name name) after
lone_seated name before after keep closed opened = record { named = named; others = others }
  where
    named : (seat : Seat) (n : Word) → lone_name name seat ≡ Some n → after seat ≡ true
    named seats.A n is = absurd (cc)
    named seats.B n is = absurd (cc)
    named seats.C n is = absurd (cc)
    named seats.In n is = opened

    others : (seat : Seat) → lone_name name seat ≡ None → after seat ≡ false
    others seats.A is = keep seats.A (λ e. cc) ∙ closed seats.A
    others seats.B is = keep seats.B (λ e. cc) ∙ closed seats.B
    others seats.C is = keep seats.C (λ e. cc) ∙ closed seats.C
    others seats.In is = absurd (cc)
