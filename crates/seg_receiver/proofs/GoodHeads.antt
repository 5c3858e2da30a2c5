-- A head that isn't refused says what it must repeat.
use Rattle.std.proofs.Common.{◌≡◌, ℕ, Bool, true, false, List, refl, ap, ◌∙◌, eqb-true}
use Rattle.std.specs.Prelude.{Some, None, Ok, Err, not, ◌==◌, if◌then◌else◌, slice_index}
use Rattle.std.specs.declared.option.Option.{Option}
use Rattle.std.specs.declared.result.Result.{Result}
use Rattle.isdbt_base.specs.declared.kinds.Mode.{Mode}
use Rattle.isdbt_base.specs.declared.kinds.Mode.TheVariants.{M1, M2, M3}
use Rattle.isdbt_base.specs.declared.kinds.Guard.{Guard}
use Rattle.isdbt_base.specs.declared.kinds.Guard.TheVariants.{G4, G8, G16, G32}
use Rattle.isdbt_base.specs.declared.head.HeadFault.{HeadFault}
use Rattle.isdbt_base.specs.Heads.{mode_byte, guard_byte, mode_in, guard_in, at_byte, both_read, head_read}
use Rattle.seg_receiver.specs.HeadChecks.{unread_byte, other_byte, least, bad_byte}

-- neither place is there
pub neither : (a b : Option ℕ) → least a b ≡ None → (a ≡ None) × (b ≡ None)
neither None None h = (refl, refl)
neither None (Some y) h = absurd (cc)
neither (Some x) None h = absurd (cc)
neither (Some x) (Some y) h = absurd (cc)

abbrev other_of : Bool → Bool → Option ℕ
other_of x y = if not x then Some 4 else if not y then Some 5 else None

repeats : (x y : Bool) → other_of x y ≡ None → (x ≡ true) × (y ≡ true)
repeats true true h = (refl, refl)
repeats true false h = absurd (cc)
repeats false y h = absurd (cc)

-- what a head says of which no byte is refused: what its bytes 4 and 5 say
behind-fixed : (a b c d : Bool) (r : Result (Mode × Guard) HeadFault) →
    unread_byte (if not a then Err (at_byte 0) else if not b then Err (at_byte 1) else if not c then Err (at_byte 2) else if not d then Err (at_byte 3) else r) ≡ None →
    (if not a then Err (at_byte 0) else if not b then Err (at_byte 1) else if not c then Err (at_byte 2) else if not d then Err (at_byte 3) else r) ≡ r
behind-fixed true true true true r h = refl
behind-fixed true true true false r h = absurd (cc)
behind-fixed true true false d r h = absurd (cc)
behind-fixed true false c d r h = absurd (cc)
behind-fixed false b c d r h = absurd (cc)

pub said-tail : (head : List ℕ) → unread_byte (head_read head) ≡ None → head_read head ≡ both_read (mode_in (slice_index head 4)) (guard_in (slice_index head 5))
unfolding head_read
said-tail head h = behind-fixed (slice_index head 0 == 0x49) (slice_index head 1 == 0x53) (slice_index head 2 == 0x43) (slice_index head 3 == 0x32) (both_read (mode_in (slice_index head 4)) (guard_in (slice_index head 5))) h

read-mode : (m : Mode) → mode_in (mode_byte m) ≡ Some m
read-mode M1 = refl
read-mode M2 = refl
read-mode M3 = refl

read-guard : (g : Guard) → guard_in (guard_byte g) ≡ Some g
read-guard G4 = refl
read-guard G8 = refl
read-guard G16 = refl
read-guard G32 = refl

pub same-head : (due : Mode × Guard) (head : List ℕ) → bad_byte (Some due) head ≡ None → head_read head ≡ Ok due
unfolding bad_byte
same-head due head h =
    let parts = neither (unread_byte (head_read head)) (other_byte (Some due) head) h in
    let same = repeats (slice_index head 4 == mode_byte due.0) (slice_index head 5 == guard_byte due.1) parts.1 in
    said-tail head parts.0
    ∙ ap (λ n. both_read (mode_in n) (guard_in (slice_index head 5))) (eqb-true (slice_index head 4) (mode_byte due.0) same.0)
    ∙ ap (λ n. both_read (mode_in (mode_byte due.0)) (guard_in n)) (eqb-true (slice_index head 5) (guard_byte due.1) same.1)
    ∙ ap (λ o. both_read o (guard_in (guard_byte due.1))) (read-mode due.0)
    ∙ ap (both_read (Some due.0)) (read-guard due.1)
