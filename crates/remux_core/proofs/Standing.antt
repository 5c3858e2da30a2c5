-- The inputs, frame by frame, whatever they hold.
use Rattle.std.proofs.Common.{◌≡◌, ℕ, ◌+◌, ◌*◌, ◌≤◌, ◌<◌, Bool, true, false, List, [], ◌∷◌, None, vec_len, refl, sym, ap, ◌∙◌, arith, inl, inr}
use Rattle.std.proofs.lemmas.Bool.{cases_Bool, cases_lt}
use Rattle.isdbt_base.specs.declared.kinds.Layer.{Layer}
use Rattle.isdbt_base.specs.Parameters.{Parameters, layer_of, number_of}
use Rattle.isdbt_base.specs.Numbers.{packets_per_frame}
use Rattle.isdbt_base.specs.Plans.{Schedule, Switch, IsPlan, RisesFrom, greatest_from}
use Rattle.isdbt_base.proofs.EpochLaws.{greatest-covers}
use Rattle.edge_io.specs.declared.shelf.Seat.{Seat}
use Rattle.remux_core.specs.declared.inputs.Inputs.{Inputs}
use Rattle.remux_core.specs.Frames.{packets_of, most_packets}
use Rattle.remux_core.specs.Multiplex.{filled}
use Rattle.remux_core.specs.Refusals.{seat_of}
use Rattle.remux_core.specs.Reading.{input_of, counted, HasSeats, Stands}
use Rattle.remux_core.proofs.Places.{placed_before-zero, placed_before-next, placed_before-few, filled-most, packets-unused, layers_none, unused-none, used-at}

-- there is room for the packets of each frame
pub fits : (p : Schedule) (f : ℕ) (i : Inputs) (o : Seat → Bool) (x : Layer) → Stands p f i o → 188 * filled p x f ≤ vec_len (input_of i x).bytes
fits p f i o x s =
    let most = filled-most p x f in
    let room = s.room x in
    omega (arith, most, room)

-- few packets are placed before a frame
pub few : (p : Schedule) (f : ℕ) (i : Inputs) (o : Seat → Bool) (x : Layer) → f ≤ 16777216 → Stands p f i o → counted (input_of i x) ≤ 1099511627776
few p f i o x le s =
    let most = placed_before-few p x f (s.small x) in
    let is = s.placed x in
    omega (arith, most, is, le)

-- what a read of all layers leaves
pub record ReadOn (p : Schedule) (f : ℕ) (i j : Inputs) (o o' : Seat → Bool) : Type 0 where
  pub seats : HasSeats j
  pub room : (x : Layer) → vec_len (input_of j x).bytes ≡ vec_len (input_of i x).bytes
  pub first : (x : Layer) → (input_of j x).first ≡ counted (input_of i x)
  pub wanted : (x : Layer) → (input_of j x).wanted ≡ filled p x f
  pub ended : (x : Layer) → (input_of i x).ended ≡ true → (input_of j x).ended ≡ true
  pub still_open : o' ≡ o

pub stands-next : (p : Schedule) (f : ℕ) (i j : Inputs) (o o' : Seat → Bool) → Stands p f i o → ReadOn p f i j o o' → Stands p (f + 1) j o'
stands-next p f i j o o' s r = record {
  seats = r.seats;
  room = λ x. r.room x ∙ s.room x;
  small = s.small;
  unused = λ x none. r.ended x (s.unused x none);
  placed = λ x. (let a = r.first x in let b = r.wanted x in let is = s.placed x in let n = placed_before-next p x f in omega (arith, a, b, is, n));
  listens = λ x goes. ap (λ k. k (seat_of x)) r.still_open ∙ s.listens x (elim (cases_Bool (input_of i x).ended) [ inl e ↦ absurd (let k = r.ended x e in cc) | inr e ↦ e ]);
}

-- ---- at the start

-- the most packets of a layer that no setting uses
none_from : (first : Parameters) (x : Layer) (last : ℕ) (ws : List Switch) → RisesFrom last first ws → layer_of first x ≡ None →
    greatest_from (λ t. number_of (packets_per_frame t.mode) (layer_of t.setting x)) 0 ws ≡ 0
none_from first x last [] r e = refl
none_from first x last (w ∷ ws) r e = rw (packets-unused w.after x (layers_none first w.after.setting x r.3 e)) (none_from first x w.frame ws r.4 e)

most-none : (p : Schedule) (x : Layer) → IsPlan p → packets_of p.first x ≡ 0 → most_packets p x ≡ 0
most-none p x plan empty =
    ap (λ n. greatest_from (λ t. number_of (packets_per_frame t.mode) (layer_of t.setting x)) n p.switches) empty
    ∙ none_from p.first.setting x 0 p.switches plan.rising (unused-none p.first x plan.first empty)

most-some : (p : Schedule) (x : Layer) → IsPlan p → 0 < packets_of p.first x → 0 < most_packets p x
most-some p x plan some =
    let a = used-at p x 0 plan some in
    let b = greatest-covers (λ t. number_of (packets_per_frame t.mode) (layer_of t.setting x)) p 0 in
    omega (arith, a, b)

-- inputs that were just opened
pub record Opened (p : Schedule) (i : Inputs) : Type 0 where
  pub plan : IsPlan p
  pub seats : HasSeats i
  pub room : (x : Layer) → vec_len (input_of i x).bytes ≡ 188 * most_packets p x
  pub small : (x : Layer) → most_packets p x ≤ 3276
  pub none : (x : Layer) → counted (input_of i x) ≡ 0
  pub used : (x : Layer) → 0 < most_packets p x → (input_of i x).ended ≡ false
  pub unused : (x : Layer) → most_packets p x ≡ 0 → (input_of i x).ended ≡ true

pub open-used : (p : Schedule) (i : Inputs) (x : Layer) → Opened p i → 0 < packets_of p.first x → (input_of i x).ended ≡ false
open-used p i x o some = o.used x (most-some p x o.plan some)

pub open-unused : (p : Schedule) (i : Inputs) (x : Layer) → Opened p i → packets_of p.first x ≡ 0 → (input_of i x).ended ≡ true
open-unused p i x o none = o.unused x (most-none p x o.plan none)

pub stands-open : (p : Schedule) (i : Inputs) (is_open : Seat → Bool) → Opened p i → ((x : Layer) → 0 < packets_of p.first x → is_open (seat_of x) ≡ true) → Stands p 0 i is_open
stands-open p i is_open o listens = record {
  seats = o.seats;
  room = o.room;
  small = o.small;
  unused = λ x none. open-unused p i x o none;
  placed = λ x. o.none x ∙ sym (placed_before-zero p x);
  listens = λ x goes. elim (cases_lt 0 (packets_of p.first x)) [ inl some ↦ listens x some | inr none ↦ absurd (let e = open-unused p i x o (omega (arith, none)) in cc) ];
}
