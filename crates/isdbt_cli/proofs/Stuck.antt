-- Where words get stuck: one rule behind another, and the place of a fault.
use Rattle.std.proofs.Common.{◌≡◌, ◌≢◌, ℕ, suc, ◌+◌, List, [], ◌∷◌, ◌++◌, length, take, None, Some, IfErr, refl, sym, ap, ◌∙◌, subst, arith, append_assoc, length-append, inl, inr}
use Rattle.std.specs.Prelude.{◌⊎◌, ok_or}
use Rattle.std.specs.declared.option.Option.{Option}
use Rattle.std.specs.declared.result.Result.{Result}
use Rattle.std.proofs.lemmas.List.{append-nil}
use Rattle.isdbt_cli.specs.CommandLines.{Command, Spells, CanGoOn, IsFaultAt}
use Rattle.setting_words.specs.SettingWords.{Word}
use Rattle.isdbt_cli.specs.Parsing.{Unread, Reads, BeginsWith, IsStuck, StartsWith}

-- ---- a rule of one word

same_head : {x y : Word} {xs ys : List Word} → x ∷ xs ≡ y ∷ ys → x ≡ y
same_head e = cc

-- no word is left
pub missing : {X : Type 0} (Valid : X → Type 0) (text : X → Word) (x : X) → Valid x → (u : Unread) (place : ℕ) → (place ≡ u.place) × (u.words ≡ [])
    → IsStuck (BeginsWith Valid (λ y. text y ∷ [])) u place
missing Valid text x valid u place says = record {
  front = [];
  rest = [];
  split = says.1;
  place_is = (let k = says.0 in omega (arith, k));
  goes_on = (text x ∷ [], (x, valid, [], refl));
  stuck = λ tail b heads. (let bad = ap (take 1) (sym b.3) ∙ heads in cc);
}

-- the next word is no text
pub wrong : {X : Type 0} (Valid : X → Type 0) (text : X → Word) (x : X) → Valid x → (u v : Unread) (place : ℕ) (w : Word) → place ≡ u.place → Reads (w ∷ []) u v
    → ((y : X) → Valid y → w ≢ text y) → IsStuck (BeginsWith Valid (λ y. text y ∷ [])) u place
wrong Valid text x valid u v place w at reads other = record {
  front = [];
  rest = u.words;
  split = refl;
  place_is = omega (arith, at);
  goes_on = (text x ∷ [], (x, valid, [], refl));
  stuck = λ tail b heads. other b.0 b.1 (same_head (ap (take 1) (sym reads.split) ∙ sym heads ∙ ap (take 1) b.3));
}

pub refused : {X : Type 0} (P : ℕ → Type 0) (r : Result X ℕ) (o : Option X) (place : ℕ) → r ≡ ok_or o place → (o ≡ None → P place) → IfErr r P
refused P r None place e p = subst (λ q. IfErr q P) (sym e) (p refl)
refused P r (Some x) place e p = subst (λ q. IfErr q P) (sym e) tt

-- ---- one rule behind another

pub reads_none : (u : Unread) → Reads [] u u
reads_none u = record { split = refl; place = omega arith }

pub reads_both : (a b : List Word) (u v w : Unread) → Reads a u v → Reads b v w → Reads (a ++ b) u w
reads_both a b u v w r s = record {
  split = r.split ∙ ap (λ (xs : List Word). a ++ xs) s.split ∙ sym (append_assoc a b w.words);
  place = (let e = r.place in let f = s.place in let n = length-append a b in omega (arith, e, f, n));
}

behind_place : (read front : List Word) (u v : Unread) (p : ℕ) → v.place ≡ u.place + length read → p ≡ v.place + length front → p ≡ u.place + length (read ++ front)
behind_place read front u v p e f = (let n = length-append read front in omega (arith, e, f, n))

behind_split : (read front rest : List Word) (u v : Unread) → u.words ≡ read ++ v.words → v.words ≡ front ++ rest → u.words ≡ (read ++ front) ++ rest
behind_split read front rest u v e f = e ∙ ap (λ (xs : List Word). read ++ xs) f ∙ sym (append_assoc read front rest)

-- what follows the words that were read is another language
pub stuck_behind : (L M : List Word → Type 0) (read : List Word) (u v : Unread) (p : ℕ) → Reads read u v → ((ws : List Word) → L ws → M (read ++ ws))
    → ((ws : List Word) → M (read ++ ws) → L ws) → IsStuck L v p → IsStuck M u p
stuck_behind L M read u v p r up down s = record {
  front = read ++ s.front;
  rest = s.rest;
  split = behind_split read s.front s.rest u v r.split s.split;
  place_is = behind_place read s.front u v p r.place s.place_is;
  goes_on = (s.goes_on.0, subst M (sym (append_assoc read s.front s.goes_on.0)) (up (s.front ++ s.goes_on.0) s.goes_on.1));
  stuck = λ tail m heads. s.stuck tail (down (s.front ++ tail) (subst M (append_assoc read s.front tail) m)) heads;
}

-- of two fronts of a list one begins with the other
overlap : (front tail xs more : List Word) → front ++ tail ≡ xs ++ more → ((t : List Word) × (xs ≡ front ++ t)) ⊎ ((f : List Word) × (front ≡ xs ++ f))
overlap [] tail xs more e = inl (xs, refl)
overlap (w ∷ front) tail [] more e = inr (w ∷ front, refl)
overlap (w ∷ front) tail (x ∷ xs) more e =
    let head : w ≡ x = cc in
    let rest : front ++ tail ≡ xs ++ more = cc in
    elim (overlap front tail xs more rest) [
      | inl o ↦ (let same = o.1 in inl (o.0, cc))
      | inr o ↦ (let same = o.1 in inr (o.0, cc))
    ]

-- what follows the words that were read begins with the text of a valid value, and each may follow
pub stuck_piece : {X : Type 0} (Valid : X → Type 0) (text : X → List Word) (M : List Word → Type 0) (read : List Word) (u v : Unread) (p : ℕ) → Reads read u v
    → ((x : X) → Valid x → (more : List Word) × M (read ++ (text x ++ more)))
    → ((ws : List Word) → M (read ++ ws) → BeginsWith Valid text ws) → IsStuck (BeginsWith Valid text) v p → IsStuck M u p
stuck_piece {X = X} Valid text M read u v p r up down s = record {
  front = read ++ s.front;
  rest = s.rest;
  split = behind_split read s.front s.rest u v r.split s.split;
  place_is = behind_place read s.front u v p r.place s.place_is;
  goes_on = go s.goes_on.1.0 s.goes_on.1.1 s.goes_on.1.2 s.goes_on.1.3;
  stuck = λ tail m heads. s.stuck tail (down (s.front ++ tail) (subst M (append_assoc read s.front tail) m)) heads;
}
  where
    go : (x : X) → Valid x → (more : List Word) → s.front ++ s.goes_on.0 ≡ text x ++ more → (tail : List Word) × M ((read ++ s.front) ++ tail)
    go x valid more e = elim (overlap s.front s.goes_on.0 (text x) more e) [
      | inl o ↦ (let m = up x valid in (
        o.0 ++ m.0,
        subst M (ap (λ (xs : List Word). read ++ (xs ++ m.0)) o.1 ∙ ap (λ (xs : List Word). read ++ xs) (append_assoc s.front o.0 m.0) ∙ sym
            (append_assoc read s.front (o.0 ++ m.0))) m.1,
      ))
      | inr o ↦ absurd (s.stuck s.rest (x, valid, o.0 ++ s.rest, ap (λ (xs : List Word). xs ++ s.rest) o.1 ∙ append_assoc (text x) o.0 s.rest) refl)
    ]

-- the next word can't follow
pub stuck_here : (M : List Word → Type 0) (read : List Word) (u v : Unread) (p : ℕ) → Reads read u v → p ≡ v.place → (tail : List Word) × M (read ++ tail)
    → ((ws : List Word) → M (read ++ ws) → take 1 ws ≡ take 1 v.words → ⊥) → IsStuck M u p
stuck_here M read u v p r at goes never = record { front = read; rest = v.words; split = r.split; place_is = at ∙ r.place; goes_on = goes; stuck = never }

pub not_none : (xs : List Word) → xs ≢ [] → [] ≡ take 1 xs → ⊥
not_none [] some e = some refl
not_none (x ∷ xs) some e = absurd (cc)

-- a word is left behind a whole list
pub stuck_end : (M : List Word → Type 0) (read : List Word) (u v : Unread) (p : ℕ) → Reads read u v → p ≡ v.place → v.words ≢ [] → M read
    → ((tail : List Word) → M (read ++ tail) → tail ≡ []) → IsStuck M u p
stuck_end M read u v p r at some whole only =
    stuck_here M read u v p r at ([], subst M (sym (append-nil read)) whole) (λ tail m heads. not_none v.words some (ap (take 1) (sym (only tail m)) ∙ heads))

-- where a rule of one word gets stuck, it is at the next word, which is no text
pub misses : {X : Type 0} (Valid : X → Type 0) (text : X → Word) (u : Unread) (place : ℕ) → IsStuck (BeginsWith Valid (λ y. text y ∷ [])) u place
    → (place ≡ u.place) × ((x : X) → Valid x → StartsWith (text x) u.words → ⊥)
misses {X = X} Valid text u place s = go s.front s.rest s.split s.place_is s.goes_on s.stuck
  where
    go : (front rest : List Word) → u.words ≡ front ++ rest → place ≡ u.place + length front
        → (tail : List Word) × BeginsWith Valid (λ y. text y ∷ []) (front ++ tail)
        → ((tail : List Word) → BeginsWith Valid (λ y. text y ∷ []) (front ++ tail) → take 1 tail ≡ take 1 rest → ⊥)
        → (place ≡ u.place) × ((x : X) → Valid x → StartsWith (text x) u.words → ⊥)
    go [] rest split at goes stuck = (omega (arith, at), λ x valid heads. stuck (text x ∷ []) (x, valid, [], refl) (sym heads ∙ ap (take 1) split))
    go (w ∷ front) rest split at goes stuck = absurd (stuck rest (goes.1.0, goes.1.1, front ++ rest, ap (λ (h : Word). h ∷ (front ++ rest)) (same_head goes.1.3)) refl)

-- a rule of one word gets stuck, and what follows is a word of it wherever it begins with the next word
pub stuck_word : {X : Type 0} (Valid : X → Type 0) (text : X → Word) (M : List Word → Type 0) (read : List Word) (u v : Unread) (p : ℕ) → Reads read u v
    → IsStuck (BeginsWith Valid (λ y. text y ∷ [])) v p → (tail : List Word) × M (read ++ tail)
    → ((ws : List Word) → M (read ++ ws) → take 1 ws ≡ take 1 v.words → BeginsWith Valid (λ y. text y ∷ []) ws) → IsStuck M u p
stuck_word Valid text M read u v p r s goes down =
    let m = misses Valid text v p s in
    stuck_here M read u v p r m.0 goes (λ ws f heads. (let b = down ws f heads in m.1 b.0 b.1 (sym heads ∙ ap (take 1) b.3)))

-- ---- the place of a fault

take-front : (front rest : List Word) → take (length front) (front ++ rest) ≡ front
take-front [] rest = refl
take-front (x ∷ front) rest = ap (λ (xs : List Word). x ∷ xs) (take-front front rest)

take-more : (front rest : List Word) → take (suc (length front)) (front ++ rest) ≡ front ++ take 1 rest
take-more [] rest = refl
take-more (x ∷ front) rest = ap (λ (xs : List Word). x ∷ xs) (take-more front rest)

-- some command's words
abbrev pub AnyCommand : List Word → Type 0
AnyCommand words = (c : Command) × Spells words c

fault_there : (front rest : List Word) → (tail : List Word) × AnyCommand (front ++ tail)
    → ((tail : List Word) → AnyCommand (front ++ tail) → take 1 tail ≡ take 1 rest → ⊥) → IsFaultAt (front ++ rest) (length front)
fault_there front [] goes stuck = record {
  within = (let n = length-append {A = Word} front [] in omega (arith, n));
  before = subst CanGoOn (sym (take-front front [])) (goes.1.0, goes.0, goes.1.1);
  fault = λ less g. absurd (let n = length-append {A = Word} front [] in omega (arith, n, less));
  short = λ e c s. stuck [] (c, s) refl;
}
fault_there front (w ∷ rest) goes stuck = record {
  within = (let n = length-append front (w ∷ rest) in omega (arith, n));
  before = subst CanGoOn (sym (take-front front (w ∷ rest))) (goes.1.0, goes.0, goes.1.1);
  fault = λ less g. (let more : length front + 1 ≡ suc (length front) = omega arith in
      let h = subst CanGoOn (ap (λ n. take n (front ++ w ∷ rest)) more ∙ take-more front (w ∷ rest)) g in
      stuck (w ∷ h.1) (h.0, subst (λ (ws : List Word). Spells ws h.0) (append_assoc front (w ∷ []) h.1) h.2) refl);
  short = λ e. absurd (let n = length-append front (w ∷ rest) in omega (arith, n, e));
}

pub fault_at : (words : List Word) (p : ℕ) → IsStuck AnyCommand (record { place = 0; words = words }) p → IsFaultAt words p
fault_at words p s =
    let place : length s.front ≡ p = (let e = s.place_is in omega (arith, e)) in
    subst (λ (n : ℕ). IsFaultAt words n) place (subst (λ (ws : List Word). IsFaultAt ws (length s.front)) (sym s.split) (fault_there s.front s.rest s.goes_on s.stuck))
