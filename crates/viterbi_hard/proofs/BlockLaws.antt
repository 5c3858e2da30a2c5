-- The blocks: maps composed, labels that are known, and one block more.
use Rattle.std.proofs.Common.{◌≡◌, ◌≢◌, ℕ, zero, suc, ◌+◌, ◌*◌, ◌/◌, ◌%◌, ◌<◌, ◌≤◌, List, [], true, length, drop, get_or, set, eqb, refl, subst, ap, sym, ◌∙◌, arith, get_or-set_same, get_or-set_other, ◌-◌, inl, inr}
use Rattle.std.proofs.Math.Nat.{eq-or-lt_of_le}
use Rattle.std.proofs.lemmas.Bool.{agree_below_at, eqb-true}
use Rattle.std.proofs.lemmas.List.{drop-drop}
use Rattle.viterbi_hard.specs.declared.maps.TheConstants.{OWN_LANES}
use Rattle.viterbi_hard.specs.declared.received.Received.{Received}
use Rattle.viterbi_hard.specs.declared.blocks.Blocks.{Blocks}
use Rattle.viterbi_hard.specs.Trellis.{newest_state}
use Rattle.viterbi_hard.specs.States.{AreTags, IsLabel, IsTag, path_at, state_of}
use Rattle.viterbi_hard.specs.Blocks.{AllLead, AreKnown, AreLabels, HasKept, HasMaps, Lead, Leads, Traced, place_back}
use Rattle.viterbi_hard.proofs.StateLaws.{state_mod}
use Rattle.viterbi_hard.proofs.PathLaws.{label_back, label_here, label_of_tag, state_back}

own_lane : (n : ℕ) → n < 64 → get_or OWN_LANES n 0 ≡ n
own_lane n h = eqb-true _ _ (agree_below_at (λ n. eqb (get_or OWN_LANES n 0) n) (λ _. true) 64 n refl h)

-- at a boundary
pub own_tags : (rs : List Received) → AreTags OWN_LANES 0 rs
own_tags rs n h =
    subst (λ v. IsTag v 0 (path_at rs n)) (sym (own_lane n h))
    (record { state = refl; first = λ le. absurd (omega arith); second = λ le. absurd (omega arith); young = λ lt. h })

pub own_lead : (rs : List Received) → Lead OWN_LANES 0 rs
own_lead rs n h = subst (λ v. Leads v 0 (path_at rs n)) (sym (own_lane n h)) (record { low = h; state = refl })

-- ---- a block further back

lead_more : (rs : List Received) (n lane m tag : ℕ) → Leads lane m (path_at rs n) → IsTag tag 8 (path_at (drop m rs) lane) → Leads (tag % 64) (m + 8) (path_at rs n)
lead_more rs n lane m tag l t = record {
  low = omega arith;
  state = state_mod tag ∙ state_back m rs n lane l.state 8 tag t.state;
}

eight_more : (b : ℕ) → 8 * b + 8 ≡ 8 * (b + 1)
eight_more b = omega arith

-- the lanes that all lanes lead to
pub composed : (blocks : Blocks) (rs : List Received) (b : ℕ) (lanes tags new : List ℕ) → HasMaps blocks rs → b < 16 → Lead lanes (8 * b) rs
    → ((n : ℕ) → n < 64 → get_or tags n 0 ≡ get_or (get_or blocks.maps (place_back blocks.oldest b) []) (get_or lanes n 0 % 64) 0)
    → ((n : ℕ) → n < 64 → get_or new n 0 ≡ get_or tags n 0 % 64)
    → Lead new (8 * (b + 1)) rs
composed blocks rs b lanes tags new maps h lead t e n lt =
    let here = lead n lt in
    let same : get_or lanes n 0 % 64 ≡ get_or lanes n 0 = omega (arith, here.low) in
    let tag : IsTag (get_or tags n 0) 8 (path_at (drop (8 * b) rs) (get_or lanes n 0)) =
    subst (λ v. IsTag v 8 (path_at (drop (8 * b) rs) (get_or lanes n 0))) (sym (t n lt ∙ ap (λ k. get_or (get_or blocks.maps (place_back blocks.oldest b) []) k 0) same))
    (maps b h (get_or lanes n 0) here.low) in
    subst (λ m. Leads (get_or new n 0) m (path_at rs n)) (eight_more b)
    (subst (λ v. Leads v (8 * b + 8) (path_at rs n)) (sym (e n lt)) (lead_more rs n (get_or lanes n 0) (8 * b) (get_or tags n 0) here tag))

-- the labels of all survivors, where they are in one lane
pub label_all : (blocks : Blocks) (rs : List Received) (b end tag label : ℕ) → HasMaps blocks rs → b < 16 → AllLead end (8 * b) rs
    → tag ≡ get_or (get_or blocks.maps (place_back blocks.oldest b) []) end 0
    → label ≡ tag / 64 * 64 + end
    → AreKnown label b rs
label_all blocks rs b end tag label maps h lead t e n lt =
    let here = lead n lt in
    let is : IsTag tag 8 (path_at (drop (8 * b) rs) end) = subst (λ v. IsTag v 8 (path_at (drop (8 * b) rs) end)) (sym t) (maps b h end here.low) in
    let same : end + 64 * (tag / 64) ≡ label = omega arith in
    subst (λ v. IsLabel v (drop (8 * b) (path_at rs n))) same
    (label_here (8 * b) rs n end here.state (end + 64 * (tag / 64)) (label_of_tag end tag (drop (8 * b) rs) here.low is))

pub lead_all : (blocks : Blocks) (rs : List Received) (b end tag new : ℕ) → HasMaps blocks rs → b < 16 → AllLead end (8 * b) rs
    → tag ≡ get_or (get_or blocks.maps (place_back blocks.oldest b) []) end 0
    → new ≡ tag % 64
    → AllLead new (8 * (b + 1)) rs
lead_all blocks rs b end tag new maps h lead t e n lt =
    let here = lead n lt in
    let is : IsTag tag 8 (path_at (drop (8 * b) rs) end) = subst (λ v. IsTag v 8 (path_at (drop (8 * b) rs) end)) (sym t) (maps b h end here.low) in
    subst (λ m. Leads new m (path_at rs n)) (eight_more b)
    (subst (λ v. Leads v (8 * b + 8) (path_at rs n)) (sym e) (lead_more rs n end (8 * b) tag here is))

pub place_other : (oldest a b : ℕ) → a < 16 → b < 16 → a ≢ b → place_back oldest a ≢ place_back oldest b
place_other oldest a b h k ne = omega arith

-- each survivor's own label
pub label_each : (blocks : Blocks) (rs : List Received) (b : ℕ) (lanes tags labels : List ℕ) → HasMaps blocks rs → b < 16 → Lead lanes (8 * b) rs
    → ((n : ℕ) → n < 64 → get_or tags n 0 ≡ get_or (get_or blocks.maps (place_back blocks.oldest b) []) (get_or lanes n 0 % 64) 0)
    → ((n : ℕ) → n < 64 → get_or lanes n 0 < 64 → get_or labels n 0 ≡ get_or lanes n 0 + 64 * (get_or tags n 0 / 64))
    → AreLabels labels b rs
label_each blocks rs b lanes tags labels maps h lead t e n lt =
    let here = lead n lt in
    let same : get_or lanes n 0 % 64 ≡ get_or lanes n 0 = omega (arith, here.low) in
    let tag : IsTag (get_or tags n 0) 8 (path_at (drop (8 * b) rs) (get_or lanes n 0)) =
    subst (λ v. IsTag v 8 (path_at (drop (8 * b) rs) (get_or lanes n 0))) (sym (t n lt ∙ ap (λ k. get_or (get_or blocks.maps (place_back blocks.oldest b) []) k 0) same))
    (maps b h (get_or lanes n 0) here.low) in
    subst (λ v. IsLabel v (drop (8 * b) (path_at rs n))) (sym (e n lt here.low))
    (label_here (8 * b) rs n (get_or lanes n 0) here.state _ (label_of_tag (get_or lanes n 0) (get_or tags n 0) (drop (8 * b) rs) here.low tag))

-- put to those that are kept
pub kept_set : (oldest place back : ℕ) (kept : List (List ℕ)) (labels : List ℕ) (rs : List Received) → length kept ≡ 16 → place ≡ place_back oldest back → back < 16
    → ((b : ℕ) → b < back → AreLabels (get_or kept (place_back oldest b) []) b rs) → AreLabels labels back rs
    → (b : ℕ) → b < back + 1 → AreLabels (get_or (set kept place labels) (place_back oldest b) []) b rs
kept_set oldest place back kept labels rs long e h others own b lt =
    let upto : b ≤ back = omega arith in
    elim (eq-or-lt_of_le upto) [
      | inl same ↦
          let at : place_back oldest b ≡ place = ap (place_back oldest) same ∙ sym e in
          let within : place < length kept = omega (arith, e, long) in
          let is : get_or (set kept place labels) (place_back oldest b) [] ≡ labels = ap (λ k. get_or (set kept place labels) k []) at ∙ get_or-set_same kept place labels [] within in
          subst (λ l. AreLabels l b rs) (sym is) (subst (λ k. AreLabels labels k rs) (sym same) own)
      | inr l ↦
          let apart : place_back oldest b ≢ place_back oldest back = place_other oldest b back (omega arith) h (omega arith) in
          let ne : place_back oldest b ≢ place = omega (arith, e) in
          subst (λ l. AreLabels l b rs) (sym (get_or-set_other kept place (place_back oldest b) labels [] ne)) (others b l)
    ]

-- the oldest block's, found by the lane in front
pub kept_oldest : (blocks : Blocks) (rs : List Received) (labels : List ℕ) → HasKept blocks rs → 1 ≤ blocks.kept.left
    → ((n : ℕ) → n < 64 → get_or labels n 0 ≡ get_or (get_or blocks.kept.labels (blocks.oldest % 16) []) (get_or blocks.kept.front n 0 % 64) 0)
    → AreLabels labels 15 rs
kept_oldest blocks rs labels kept le e n h =
    let place : blocks.oldest % 16 ≡ place_back blocks.oldest 15 = omega arith in
    subst (λ v. IsLabel v (drop 120 (path_at rs n))) (sym (e n h ∙ ap (λ k. get_or (get_or blocks.kept.labels k []) (get_or blocks.kept.front n 0 % 64) 0) place))
    (kept 15 (omega arith) (omega arith) n h)

-- where they are one for all lanes
pub kept_equal : (blocks : Blocks) (rs : List Received) (labels : List ℕ) → AreLabels labels 15 rs → ((n : ℕ) → n < 64 → get_or labels n 0 ≡ get_or labels 0 0) → length blocks.labels ≡ 16
    → (b : ℕ) → b < 16 → 16 ≤ b + 1 → AreKnown (get_or (set blocks.labels (blocks.oldest % 16) (get_or labels 0 0)) (place_back blocks.oldest b) 0) b rs
kept_equal blocks rs labels f e long b h le n lt =
    let last : 15 ≡ b = omega arith in
    let place : place_back blocks.oldest b ≡ blocks.oldest % 16 = omega arith in
    let within : blocks.oldest % 16 < length blocks.labels = omega (arith, long) in
    let is : get_or (set blocks.labels (blocks.oldest % 16) (get_or labels 0 0)) (place_back blocks.oldest b) 0 ≡ get_or labels n 0 =
    ap (λ k. get_or (set blocks.labels (blocks.oldest % 16) (get_or labels 0 0)) k 0) place ∙ get_or-set_same blocks.labels (blocks.oldest % 16) (get_or labels 0 0) 0 within ∙ sym (e n lt) in
    subst (λ v. IsLabel v (drop (8 * b) (path_at rs n))) (sym is) (subst (λ m. IsLabel (get_or labels n 0) (drop (8 * m) (path_at rs n))) last (f n lt))

-- just read
pub kept_read : (old new : Blocks) (rs : List Received) → ((b : ℕ) → b < 16 → AreLabels (get_or new.kept.labels (place_back old.oldest b) []) b rs) → new.oldest ≡ old.oldest → new.kept.front ≡ OWN_LANES → HasKept new rs
kept_read old new rs f o e b h le n lt =
    let own : get_or new.kept.front n 0 % 64 ≡ n = omega (arith, ap (λ l. get_or l n 0) e, own_lane n lt) in
    let place : place_back old.oldest b ≡ place_back new.oldest b = ap (λ k. place_back k b) (sym o) in
    subst (λ k. IsLabel (get_or (get_or new.kept.labels (place_back new.oldest b) []) k 0) (drop (8 * b) (path_at rs n))) (sym own)
    (subst (λ k. IsLabel (get_or (get_or new.kept.labels k []) n 0) (drop (8 * b) (path_at rs n))) place (f b h n lt))

-- ---- one block more

pub place_next : (oldest b : ℕ) → b < 15 → place_back ((oldest % 16 + 1) % 16) (suc b) ≡ place_back oldest b
place_next oldest b h = omega arith

pub place_new : (oldest : ℕ) → place_back ((oldest % 16 + 1) % 16) 0 ≡ oldest % 16
place_new oldest = omega arith

drop_eight : (rs : List Received) (b : ℕ) → drop (8 * b) (drop 8 rs) ≡ drop (8 * suc b) rs
drop_eight rs b = let place : 8 + 8 * b ≡ 8 * suc b = omega arith in drop-drop (8 * b) 8 rs ∙ ap (λ m. drop m rs) place

pub maps_next : (old new : Blocks) (rs : List Received) (tags : List ℕ) → HasMaps old (drop 8 rs) → AreTags tags 8 rs → length old.maps ≡ 16
    → new.maps ≡ set old.maps (old.oldest % 16) tags → new.oldest ≡ (old.oldest % 16 + 1) % 16
    → HasMaps new rs
maps_next old new rs tags maps t long m o zero h =
    let place : place_back new.oldest 0 ≡ old.oldest % 16 = ap (λ k. place_back k 0) o ∙ place_new old.oldest in
    let is : get_or new.maps (place_back new.oldest 0) [] ≡ tags =
    ap (λ k. get_or new.maps k []) place ∙ ap (λ l. get_or l (old.oldest % 16) []) m ∙ get_or-set_same old.maps (old.oldest % 16) tags [] (omega arith) in
    subst (λ l. AreTags l 8 rs) (sym is) t
maps_next old new rs tags maps t long m o (suc b) h =
    let place : place_back new.oldest (suc b) ≡ place_back old.oldest b = ap (λ k. place_back k (suc b)) o ∙ place_next old.oldest b (omega arith) in
    let ne : place_back old.oldest b ≢ old.oldest % 16 = omega arith in
    let is : get_or new.maps (place_back new.oldest (suc b)) [] ≡ get_or old.maps (place_back old.oldest b) [] =
    ap (λ k. get_or new.maps k []) place ∙ ap (λ l. get_or l (place_back old.oldest b) []) m ∙ get_or-set_other old.maps (old.oldest % 16) (place_back old.oldest b) tags [] ne in
    subst (λ q. AreTags (get_or new.maps (place_back new.oldest (suc b)) []) 8 q) (drop_eight rs b)
    (subst (λ l. AreTags l 8 (drop (8 * b) (drop 8 rs))) (sym is) (maps b (omega arith)))

-- a label of all survivors is one of all later survivors
known_next : (rs : List Received) (tags : List ℕ) (label b : ℕ) → AreTags tags 8 rs → AreKnown label b (drop 8 rs) → AreKnown label (suc b) rs
known_next rs tags label b t f n h =
    let tag = t n h in
    let place : 8 + 8 * b ≡ 8 * suc b = omega arith in
    let e : state_of (get_or tags n 0 % 64) ≡ newest_state (drop 8 (path_at rs n)) = state_mod (get_or tags n 0) ∙ tag.state in
    subst (λ m. IsLabel label (drop m (path_at rs n))) place
    (label_back 8 rs n (get_or tags n 0 % 64) e (8 * b) label (f (get_or tags n 0 % 64) (omega arith)))

pub labels_next : (old new : Blocks) (rs : List Received) (tags : List ℕ) → Traced old (drop 8 rs) → AreTags tags 8 rs
    → new.labels ≡ old.labels → new.oldest ≡ (old.oldest % 16 + 1) % 16 → new.known + 1 ≡ old.known
    → (b : ℕ) → b < 16 → 16 ≤ b + new.known → AreKnown (get_or new.labels (place_back new.oldest b) 0) b rs
labels_next old new rs tags k t l o few zero h le = absurd (omega (arith, k.few))
labels_next old new rs tags k t l o few (suc b) h le =
    let place : place_back new.oldest (suc b) ≡ place_back old.oldest b = ap (λ k. place_back k (suc b)) o ∙ place_next old.oldest b (omega arith) in
    let is : get_or new.labels (place_back new.oldest (suc b)) 0 ≡ get_or old.labels (place_back old.oldest b) 0 =
    ap (λ k. get_or new.labels k 0) place ∙ ap (λ l. get_or l (place_back old.oldest b) 0) l in
    subst (λ v. AreKnown v (suc b) rs) (sym is) (known_next rs tags (get_or old.labels (place_back old.oldest b) 0) b t (k.labels b (omega arith) (omega arith)))

pub maps_same : (old new : Blocks) (rs : List Received) → new.maps ≡ old.maps → new.oldest ≡ old.oldest → HasMaps old rs → HasMaps new rs
maps_same old new rs m o maps b h =
    subst (λ l. AreTags (get_or l (place_back new.oldest b) []) 8 (drop (8 * b) rs)) (sym m)
    (subst (λ k. AreTags (get_or old.maps (place_back k b) []) 8 (drop (8 * b) rs)) (sym o) (maps b h))

pub kept_next : (old new : Blocks) (rs : List Received) (tags : List ℕ) → HasKept old (drop 8 rs) → old.kept.left ≤ 16 → AreTags tags 8 rs
    → new.oldest ≡ (old.oldest % 16 + 1) % 16 → new.kept.left ≡ old.kept.left - 1 → new.kept.labels ≡ old.kept.labels
    → (1 ≤ old.kept.left → (n : ℕ) → n < 64 → get_or new.kept.front n 0 ≡ get_or old.kept.front (get_or tags n 0 % 64) 0)
    → HasKept new rs
kept_next old new rs tags k short t o left same front zero h le n lt = absurd (omega arith)
kept_next old new rs tags k short t o left same front (suc b) h le n lt =
    let place : place_back new.oldest (suc b) ≡ place_back old.oldest b = ap (λ k. place_back k (suc b)) o ∙ place_next old.oldest b (omega arith) in
    let lane : get_or new.kept.front n 0 % 64 ≡ get_or old.kept.front (get_or tags n 0 % 64) 0 % 64 = ap (λ m. m % 64) (front (omega (arith, left)) n lt) in
    let is : get_or (get_or new.kept.labels (place_back new.oldest (suc b)) []) (get_or new.kept.front n 0 % 64) 0 ≡ get_or (get_or old.kept.labels (place_back old.oldest b) []) (get_or old.kept.front (get_or tags n 0 % 64) 0 % 64) 0 =
    ap (λ l. get_or (get_or l (place_back new.oldest (suc b)) []) (get_or new.kept.front n 0 % 64) 0) same
    ∙ ap (λ m. get_or (get_or old.kept.labels m []) (get_or new.kept.front n 0 % 64) 0) place
    ∙ ap (λ m. get_or (get_or old.kept.labels (place_back old.oldest b) []) m 0) lane in
    let tag = t n lt in
    let back : 8 + 8 * b ≡ 8 * suc b = omega arith in
    let e : state_of (get_or tags n 0 % 64) ≡ newest_state (drop 8 (path_at rs n)) = state_mod (get_or tags n 0) ∙ tag.state in
    subst (λ v. IsLabel v (drop (8 * suc b) (path_at rs n))) (sym is)
    (subst (λ m. IsLabel (get_or (get_or old.kept.labels (place_back old.oldest b) []) (get_or old.kept.front (get_or tags n 0 % 64) 0 % 64) 0) (drop m (path_at rs n))) back
    (label_back 8 rs n (get_or tags n 0 % 64) e (8 * b) _ (k b (omega arith) (omega (arith, left)) (get_or tags n 0 % 64) (omega arith))))
