-- Spreading and gathering are inverse on places, and neighbours come from numbers that are a section's segments apart.
use Rattle.std.proofs.Common.{◌≡◌, ◌≢◌, ℕ, zero, suc, ◌+◌, ◌-◌, ◌*◌, ◌/◌, ◌%◌, ◌<◌, ◌≤◌, Bool, true, false, refl, ap, sym, ◌∙◌, subst, arith}
use Rattle.isdbt_base.specs.declared.kinds.Mode.{Mode}
use Rattle.isdbt_base.specs.declared.kinds.Mode.TheVariants.{M1, M2, M3}
use Rattle.isdbt_base.specs.Numbers.{carriers}
use Rattle.time_inter.specs.declared.cell_place.CellPlace.{CellPlace}
use Rattle.segment_spread.specs.declared.section.Section.{Section}
use Rattle.segment_spread.specs.Places.{section_of, IsPlace, number_in, place_in, place_dealt, spread_place, number_dealt, dealt_before, gathered_place}

pub place-same : (a b : CellPlace) → a.segment ≡ b.segment → a.carrier ≡ b.carrier → a ≡ b
place-same a b e f =
    let segments : ℕ → CellPlace = λ s. record { segment = s; carrier = a.carrier } in
    let carriers_of : ℕ → CellPlace = λ k. record { segment = b.segment; carrier = k } in
    ap segments e ∙ ap carriers_of f

-- ---- rotating by p carriers and back

rotated-back : (mode : Mode) (q p : ℕ) → q < carriers mode → p < 13 → ((q + p) % carriers mode + (carriers mode - p)) % carriers mode ≡ q
rotated-back M1 q p h g = omega arith
rotated-back M2 q p h g = omega arith
rotated-back M3 q p h g = omega arith

rotated-forth : (mode : Mode) (k p : ℕ) → k < carriers mode → p < 13 → ((k + (carriers mode - p)) % carriers mode + p) % carriers mode ≡ k
rotated-forth M1 k p h g = omega arith
rotated-forth M2 k p h g = omega arith
rotated-forth M3 k p h g = omega arith

rotated-next : (mode : Mode) (k p : ℕ) → k < carriers mode → p < 13 → (k + 1) % carriers mode ≢ p % carriers mode
    → ((k + 1) % carriers mode + (carriers mode - p)) % carriers mode ≡ (k + (carriers mode - p)) % carriers mode + 1
rotated-next M1 k p h g ne = omega arith
rotated-next M2 k p h g ne = omega arith
rotated-next M3 k p h g ne = omega arith

pub carrier-lt : (mode : Mode) (k : ℕ) → k % carriers mode < carriers mode
carrier-lt M1 k = omega arith
carrier-lt M2 k = omega arith
carrier-lt M3 k = omega arith

-- ---- sections

section-later : (n : ℕ) → 0 < n → section_of true n ≡ record { first = 1; segments = 12 }
section-later zero h = absurd (omega arith)
section-later (suc n) h = refl

section-same : (partial : Bool) (s t : ℕ) → (section_of partial s).first ≤ t → t < (section_of partial s).first + (section_of partial s).segments → section_of partial t ≡ section_of partial s
section-same false s t h g = refl
section-same true zero t h g = let e : t ≡ 0 = omega arith in ap (section_of true) e
section-same true (suc s) t h g = section-later t (omega arith)

-- the segment is one of its section
first-le : (partial : Bool) (s : ℕ) → (section_of partial s).first ≤ s
first-le false s = omega arith
first-le true zero = omega arith
first-le true (suc s) = omega arith

last-lt : (partial : Bool) (s : ℕ) → s < 13 → s < (section_of partial s).first + (section_of partial s).segments
last-lt false s h = omega arith
last-lt true zero h = omega arith
last-lt true (suc s) h = omega arith

all-le : (partial : Bool) (s : ℕ) → (section_of partial s).first + (section_of partial s).segments ≤ 13
all-le false s = omega arith
all-le true zero = omega arith
all-le true (suc s) = omega arith

-- ---- dealing numbers to segments

dealt-segment : (partial : Bool) (p before : ℕ) → p < 13 → (section_of partial p).first + number_dealt (section_of partial p) p before % (section_of partial p).segments ≡ p
dealt-segment false p before h = omega arith
dealt-segment true zero before h = omega arith
dealt-segment true (suc p) before h = omega arith

dealt-turn : (partial : Bool) (p before : ℕ) → p < 13 → number_dealt (section_of partial p) p before / (section_of partial p).segments ≡ before
dealt-turn false p before h = omega arith
dealt-turn true zero before h = omega arith
dealt-turn true (suc p) before h = omega arith

dealt-again : (partial : Bool) (s x : ℕ) → number_dealt (section_of partial s) ((section_of partial s).first + x % (section_of partial s).segments) (x / (section_of partial s).segments) ≡ x
dealt-again false s x = omega arith
dealt-again true zero x = omega arith
dealt-again true (suc s) x = omega arith

dealt-more : (partial : Bool) (p before : ℕ) → number_dealt (section_of partial p) p (before + 1) ≡ number_dealt (section_of partial p) p before + (section_of partial p).segments
dealt-more false p before = omega arith
dealt-more true zero before = omega arith
dealt-more true (suc p) before = omega arith

dealt-below : (partial : Bool) (mode : Mode) (p before : ℕ) → p < 13 → before < carriers mode → number_dealt (section_of partial p) p before / carriers mode < (section_of partial p).segments
dealt-below false M1 p before h g = omega arith
dealt-below false M2 p before h g = omega arith
dealt-below false M3 p before h g = omega arith
dealt-below true M1 zero before h g = omega arith
dealt-below true M2 zero before h g = omega arith
dealt-below true M3 zero before h g = omega arith
dealt-below true M1 (suc p) before h g = omega arith
dealt-below true M2 (suc p) before h g = omega arith
dealt-below true M3 (suc p) before h g = omega arith

rest-lt : (partial : Bool) (s x : ℕ) → x % (section_of partial s).segments < (section_of partial s).segments
rest-lt false s x = omega arith
rest-lt true zero x = omega arith
rest-lt true (suc s) x = omega arith

turn-lt : (partial : Bool) (mode : Mode) (s k : ℕ) → s < 13 → k < carriers mode
    → ((s - (section_of partial s).first) * carriers mode + k) / (section_of partial s).segments < carriers mode
turn-lt false M1 s k h g = omega arith
turn-lt false M2 s k h g = omega arith
turn-lt false M3 s k h g = omega arith
turn-lt true M1 zero k h g = omega arith
turn-lt true M2 zero k h g = omega arith
turn-lt true M3 zero k h g = omega arith
turn-lt true M1 (suc s) k h g = omega arith
turn-lt true M2 (suc s) k h g = omega arith
turn-lt true M3 (suc s) k h g = omega arith

-- ---- places of numbers in a section

pub segment-again : (mode : Mode) (n k : ℕ) → k < carriers mode → (n * carriers mode + k) / carriers mode ≡ n
segment-again M1 n k g = omega arith
segment-again M2 n k g = omega arith
segment-again M3 n k g = omega arith

pub carrier-again : (mode : Mode) (n k : ℕ) → k < carriers mode → (n * carriers mode + k) % carriers mode ≡ k
carrier-again M1 n k g = omega arith
carrier-again M2 n k g = omega arith
carrier-again M3 n k g = omega arith

number-again : (mode : Mode) (first x : ℕ) → (first + x / carriers mode - first) * carriers mode + x % carriers mode ≡ x
number-again M1 first x = omega arith
number-again M2 first x = omega arith
number-again M3 first x = omega arith

-- ---- spreading

spread-segment-lt : (partial : Bool) (mode : Mode) (place : CellPlace) → (spread_place partial mode place).segment < 13
unfolding spread_place
spread-segment-lt partial mode place =
    let section = section_of partial place.segment in
    omega (arith, rest-lt partial place.segment (number_in section mode place), all-le partial place.segment)

pub spread-within : (partial : Bool) (mode : Mode) (place : CellPlace) → IsPlace mode (spread_place partial mode place)
unfolding spread_place
spread-within partial mode place =
    let section = section_of partial place.segment in
    let x = number_in section mode place in
    record {
      segment = spread-segment-lt partial mode place;
      carrier = carrier-lt mode (x / section.segments + (section.first + x % section.segments));
    }

-- the place's section is that of the cell
spread-section : (partial : Bool) (mode : Mode) (place : CellPlace) → section_of partial (spread_place partial mode place).segment ≡ section_of partial place.segment
unfolding spread_place
spread-section partial mode place =
    let section = section_of partial place.segment in
    let x = number_in section mode place in
    section-same partial place.segment (section.first + x % section.segments) (omega arith) (omega (arith, rest-lt partial place.segment x))

-- what comes to the place of a cell is the cell's number
spread-number : (partial : Bool) (mode : Mode) (place : CellPlace) → IsPlace mode place
    → number_dealt (section_of partial place.segment) (spread_place partial mode place).segment (dealt_before mode (spread_place partial mode place)) ≡ number_in (section_of partial place.segment) mode place
unfolding spread_place
spread-number partial mode place h =
    let section = section_of partial place.segment in
    let x = number_in section mode place in
    let p = section.first + x % section.segments in
    ap (number_dealt section p) (rotated-back mode (x / section.segments) p (turn-lt partial mode place.segment place.carrier h.segment h.carrier) (spread-segment-lt partial mode place))
    ∙ dealt-again partial place.segment x

pub gathered-spread : (partial : Bool) (mode : Mode) (place : CellPlace) → IsPlace mode place → gathered_place partial mode (spread_place partial mode place) ≡ place
unfolding gathered_place
gathered-spread partial mode place h =
    let to = spread_place partial mode place in
    let before = dealt_before mode to in
    let section = section_of partial place.segment in
    let from : Section → CellPlace = λ s. place_in s mode (number_dealt s to.segment before) in
    ap from (spread-section partial mode place)
    ∙ ap (place_in section mode) (spread-number partial mode place h)
    ∙ place-same (place_in section mode (number_in section mode place)) place
    (ap (λ n. section.first + n) (segment-again mode (place.segment - section.first) place.carrier h.carrier) ∙ omega (arith, first-le partial place.segment))
    (carrier-again mode (place.segment - section.first) place.carrier h.carrier)

-- ---- gathering

before-lt : (mode : Mode) (place : CellPlace) → dealt_before mode place < carriers mode
before-lt mode place = carrier-lt mode (place.carrier + (carriers mode - place.segment))

gathered-section : (partial : Bool) (mode : Mode) (place : CellPlace) → IsPlace mode place → section_of partial (gathered_place partial mode place).segment ≡ section_of partial place.segment
unfolding gathered_place
gathered-section partial mode place h =
    let section = section_of partial place.segment in
    let x = number_dealt section place.segment (dealt_before mode place) in
    section-same partial place.segment (section.first + x / carriers mode) (omega arith)
    (omega (arith, dealt-below partial mode place.segment (dealt_before mode place) h.segment (before-lt mode place)))

pub gathered-within : (partial : Bool) (mode : Mode) (place : CellPlace) → IsPlace mode place → IsPlace mode (gathered_place partial mode place)
unfolding gathered_place
gathered-within partial mode place h =
    let section = section_of partial place.segment in
    let x = number_dealt section place.segment (dealt_before mode place) in
    record {
      segment = omega (arith, dealt-below partial mode place.segment (dealt_before mode place) h.segment (before-lt mode place), all-le partial place.segment);
      carrier = carrier-lt mode x;
    }

pub spread-gathered : (partial : Bool) (mode : Mode) (place : CellPlace) → IsPlace mode place → spread_place partial mode (gathered_place partial mode place) ≡ place
unfolding spread_place gathered_place
spread-gathered partial mode place h =
    let section = section_of partial place.segment in
    let before = dealt_before mode place in
    let x = number_dealt section place.segment before in
    let from = place_in section mode x in
    let to : Section → CellPlace = λ s. place_dealt s mode (number_in s mode from) in
    let segment : section.first + x % section.segments ≡ place.segment = dealt-segment partial place.segment before h.segment in
    ap to (gathered-section partial mode place h)
    ∙ ap (place_dealt section mode) (number-again mode section.first x)
    ∙ place-same (place_dealt section mode x) place segment
    (ap (λ q. (q + (section.first + x % section.segments)) % carriers mode) (dealt-turn partial place.segment before h.segment)
    ∙ ap (λ p. (before + p) % carriers mode) segment
    ∙ rotated-forth mode place.carrier place.segment h.carrier h.segment)

-- ---- the two laws

stay-first : (mode : Mode) (k : ℕ) → k < carriers mode → spread_place true mode (record { segment = 0; carrier = k }) ≡ record { segment = 0; carrier = k }
unfolding spread_place
stay-first M1 k h = place-same _ _ (omega arith) (omega arith)
stay-first M2 k h = place-same _ _ (omega arith) (omega arith)
stay-first M3 k h = place-same _ _ (omega arith) (omega arith)

pub stay-place : (mode : Mode) (place : CellPlace) → IsPlace mode place → place.segment ≡ 0 → spread_place true mode place ≡ place
stay-place mode place h e =
    let there : CellPlace = record { segment = 0; carrier = place.carrier } in
    let same : place ≡ there = place-same place there e refl in
    ap (spread_place true mode) same ∙ stay-first mode place.carrier h.carrier ∙ sym same

-- the number of a cell by the place to which it goes
number-by-place : (partial : Bool) (mode : Mode) (place : CellPlace) → IsPlace mode place
    → number_in (section_of partial (spread_place partial mode place).segment) mode place
    ≡ number_dealt (section_of partial (spread_place partial mode place).segment) (spread_place partial mode place).segment (dealt_before mode (spread_place partial mode place))
number-by-place partial mode place h =
    let to = spread_place partial mode place in
    let e = spread-section partial mode place in
    ap (λ s. number_in s mode place) e ∙ sym (spread-number partial mode place h) ∙ ap (λ s. number_dealt s to.segment (dealt_before mode to)) (sym e)

pub neighbours : (partial : Bool) (mode : Mode) (p : ℕ) (a b : CellPlace) → IsPlace mode a → IsPlace mode b
    → (spread_place partial mode a).segment ≡ p → (spread_place partial mode b).segment ≡ p
    → (spread_place partial mode b).carrier ≡ ((spread_place partial mode a).carrier + 1) % carriers mode
    → (spread_place partial mode b).carrier ≢ p % carriers mode
    → number_in (section_of partial p) mode b ≡ number_in (section_of partial p) mode a + (section_of partial p).segments
neighbours partial mode p a b ha hb ea eb next ne =
    let to_a = spread_place partial mode a in
    let to_b = spread_place partial mode b in
    let within = spread-within partial mode a in
    let n = carriers mode in
    let section = section_of partial p in
    let number_a : number_in section mode a ≡ number_dealt section p ((to_a.carrier + (n - p)) % n) =
    subst (λ q. number_in (section_of partial q) mode a ≡ number_dealt (section_of partial q) q ((to_a.carrier + (n - q)) % n)) ea (number-by-place partial mode a ha) in
    let number_b : number_in section mode b ≡ number_dealt section p ((to_b.carrier + (n - p)) % n) =
    subst (λ q. number_in (section_of partial q) mode b ≡ number_dealt (section_of partial q) q ((to_b.carrier + (n - q)) % n)) eb (number-by-place partial mode b hb) in
    let below : p < 13 = subst (λ q. q < 13) ea within.segment in
    let differs : (to_a.carrier + 1) % n ≢ p % n = λ e. ne (next ∙ e) in
    number_b
    ∙ ap (λ k. number_dealt section p ((k + (n - p)) % n)) next
    ∙ ap (number_dealt section p) (rotated-next mode to_a.carrier p within.carrier below differs)
    ∙ dealt-more partial p ((to_a.carrier + (n - p)) % n)
    ∙ ap (λ x. x + section.segments) (sym number_a)
