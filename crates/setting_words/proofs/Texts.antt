-- Texts that are cut at a byte, and at what stands before and behind.
use Rattle.std.proofs.Common.{◌≡◌, ◌≢◌, ℕ, zero, suc, ◌+◌, ◌-◌, ◌<◌, Bool, true, false, [], ◌∷◌, ◌++◌, length, take, drop, None, Some, refl, sym, ap, ◌∙◌, arith, inl, inr}
use Rattle.std.specs.Prelude.{◌==◌, ◌&&◌, not, ◌⊎◌}
use Rattle.std.specs.Borrow.{Bor}
use Rattle.std.specs.declared.option.Option.{Option}
use Rattle.std.specs.Str.Pattern.{FindsTextPrefix, FindsTextSuffix}
use Rattle.std.proofs.lemmas.Str.Pattern.{IsSplitOnceResult, split_after, split_parts}
use Rattle.std.proofs.lemmas.Bool.Decides.{Decides-eqb}
use Rattle.setting_words.specs.SettingWords.{Word}
use Rattle.setting_words.specs.Reading.{Lacks, behind_comma}

-- ---- bytes that a text lacks

pub lacks_none : (k : ℕ) → Lacks k []
lacks_none k i less = absurd (omega (arith, less))

pub lacks_more : (k x : ℕ) (xs : Word) → x ≢ k → Lacks k xs → Lacks k (x ∷ xs)
lacks_more k x xs other lacks zero less e = other e
lacks_more k x xs other lacks (suc i) less e = lacks i (omega (arith, less)) e

pub lacks_rest : (k x : ℕ) (xs : Word) → Lacks k (x ∷ xs) → Lacks k xs
lacks_rest k x xs lacks i less e = lacks (suc i) (omega (arith, less)) e

pub lacks_first : (k x : ℕ) (xs : Word) → Lacks k (x ∷ xs) → x ≢ k
lacks_first k x xs lacks e = lacks 0 (omega arith) e

pub lacks_both : (k : ℕ) (xs ys : Word) → Lacks k xs → Lacks k ys → Lacks k (xs ++ ys)
lacks_both k [] ys l m = m
lacks_both k (x ∷ xs) ys l m = lacks_more k x (xs ++ ys) (lacks_first k x xs l) (lacks_both k xs ys (lacks_rest k x xs l) m)

-- neither a comma nor a colon
abbrev pub is_plain : Word → Bool
is_plain [] = true
is_plain (x ∷ xs) = not (x == 44) && not (x == 58) && is_plain xs

plain_lacks : (k : ℕ) (xs : Word) → (k ≡ 44) ⊎ (k ≡ 58) → is_plain xs ≡ true → Lacks k xs
plain_lacks k [] which plain = lacks_none k
plain_lacks k (x ∷ xs) which plain = go (x == 44) (x == 58) refl refl (plain_lacks k xs which)
  where
    go : (a b : Bool) → (x == 44) ≡ a → (x == 58) ≡ b → (is_plain xs ≡ true → Lacks k xs) → Lacks k (x ∷ xs)
    go true b e f rest = absurd (let bad : false ≡ true = rw e at plain in cc)
    go false true e f rest = absurd (let bad : false ≡ true = rw (e, f) at plain in cc)
    go false false e f rest =
        let later : is_plain xs ≡ true = rw (e, f) at plain in
        let other : x ≢ k = λ same. elim which [
          | inl comma ↦ (let t = (Decides-eqb x 44).1 (same ∙ comma) in cc)
          | inr colon ↦ (let t = (Decides-eqb x 58).1 (same ∙ colon) in cc)
        ] in
        lacks_more k x xs other (rest later)

pub no_comma : (xs : Word) → is_plain xs ≡ true → Lacks 44 xs
no_comma xs plain = plain_lacks 44 xs (inl refl) plain

pub no_colon : (xs : Word) → is_plain xs ≡ true → Lacks 58 xs
no_colon xs plain = plain_lacks 58 xs (inr refl) plain

-- ---- the cut is one

abbrev pub IsBehind : ℕ → Word → Type 0
IsBehind k s = (s ≡ []) ⊎ ((x : Word) × (s ≡ k ∷ x))

pub is_behind : (o : Option (Bor Word)) → IsBehind 44 (behind_comma o)
is_behind None = inl refl
is_behind (Some x) = inr (x.now, refl)

same_head : {x y : ℕ} {xs ys : Word} → x ∷ xs ≡ y ∷ ys → x ≡ y
same_head e = cc

same_tail : {x y : ℕ} {xs ys : Word} → x ∷ xs ≡ y ∷ ys → xs ≡ ys
same_tail e = cc

not_inside : (k y : ℕ) (s t : Word) → IsBehind k s → s ≡ y ∷ t → y ≡ k
not_inside k y s t (inl e) f = absurd (let bad = sym e ∙ f in cc)
not_inside k y s t (inr (x, e)) f = same_head (sym f ∙ e)

-- what stands before the first such byte, and the byte with what stands behind it
pub one_cut : (k : ℕ) (a f s t : Word) → Lacks k a → Lacks k f → IsBehind k s → IsBehind k t → a ++ s ≡ f ++ t → (a ≡ f) × (s ≡ t)
one_cut k [] [] s t la lf bs bt e = (refl, e)
one_cut k [] (y ∷ f) s t la lf bs bt e = absurd (lacks_first k y f lf (not_inside k y s (f ++ t) bs e))
one_cut k (x ∷ a) [] s t la lf bs bt e = absurd (lacks_first k x a la (not_inside k x t (a ++ s) bt (sym e)))
one_cut k (x ∷ a) (y ∷ f) s t la lf bs bt e =
    let rest = one_cut k a f s t (lacks_rest k x a la) (lacks_rest k y f lf) bs bt (same_tail e) in
    let head : x ≡ y = same_head e in
    ((let tails = rest.0 in cc), rest.1)

-- ---- what the calls say

pub split_missed : (byte : ℕ) (text xs ys : Word) (r : Option (Bor Word × Bor Word)) → IsSplitOnceResult byte text r → byte < 128 → r ≡ None → text ≡ xs ++ (byte ∷ ys) → Lacks byte xs → ⊥
split_missed byte text xs ys r says ascii missed e lacks = rw missed at (split_after byte text xs ys r says ascii e lacks)

pub split_found : (byte : ℕ) (text xs ys : Word) (r : Option (Bor Word × Bor Word)) (a b : Bor Word) → IsSplitOnceResult byte text r → byte < 128 → r ≡ Some (a, b) → text ≡ xs ++ (byte ∷ ys) → Lacks byte xs → (a.now ≡ xs) × (b.now ≡ ys)
split_found byte text xs ys r a b says ascii found e lacks = rw found at (split_after byte text xs ys r says ascii e lacks)

pub split_joins : (byte : ℕ) (text : Word) (r : Option (Bor Word × Bor Word)) (a b : Bor Word) → IsSplitOnceResult byte text r → byte < 128 → r ≡ Some (a, b) → (text ≡ a.now ++ (byte ∷ b.now)) × Lacks byte a.now
split_joins byte text r a b says ascii found = rw found at (split_parts byte text r says ascii)

pub split_lacks : (byte : ℕ) (text : Word) (r : Option (Bor Word × Bor Word)) → IsSplitOnceResult byte text r → byte < 128 → r ≡ None → Lacks byte text
split_lacks byte text r says ascii missed = rw missed at (split_parts byte text r says ascii)

pub prefix_joins : (p s : Word) (x : Bor Word) → (n : ℕ) × FindsTextPrefix p s (Some n) × (x.now ≡ drop n s) × (length x.now + n ≡ length s) → s ≡ p ++ x.now
prefix_joins p s x says = says.1.1 ∙ ap (λ (rest : Word). p ++ rest) (sym says.2)

pub suffix_joins : (p s : Word) (x : Bor Word) → (n : ℕ) × FindsTextSuffix p s (Some n) × (x.now ≡ take (length s - n) s) × (length x.now + n ≡ length s) → s ≡ x.now ++ p
suffix_joins p s x says = says.1.1 ∙ ap (λ (front : Word). front ++ p) (sym says.2)

-- ---- the last byte

abbrev last : Word → ℕ
last [] = 0
last (x ∷ []) = x
last (x ∷ y ∷ ys) = last (y ∷ ys)

last-append : (xs : Word) (y : ℕ) (ys : Word) → last (xs ++ (y ∷ ys)) ≡ last (y ∷ ys)
last-append [] y ys = refl
last-append (x ∷ []) y ys = refl
last-append (x ∷ z ∷ zs) y ys = last-append (z ∷ zs) y ys

-- texts that end in different bytes
pub other_end : (a f : Word) (x y : ℕ) (xs ys : Word) → last (x ∷ xs) ≢ last (y ∷ ys) → a ++ (x ∷ xs) ≡ f ++ (y ∷ ys) → ⊥
other_end a f x y xs ys differ e = differ (sym (last-append a x xs) ∙ ap last e ∙ last-append f y ys)
