-- The search of all codewords finds the near one, and the corrected word has it.
use Rattle.std.proofs.Common.{◌≡◌, ℕ, zero, suc, ◌+◌, ◌≤◌, ◌<◌, Bool, true, false, refl, arith, ap, sym, ◌∙◌, subst, inl, inr, ◌⊎◌, List, [], ◌∷◌, ◌++◌, length, get_or, take, drop, length-append, length-drop, Option, Some, None}
use Rattle.std.specs.Prelude.{if◌then◌else◌}
use Rattle.std.proofs.lemmas.List.{take-append-drop, take_more, length-take-le}
use Rattle.std.proofs.Math.Seq.{take-append_seam, drop-append_seam}
use Rattle.std.proofs.lemmas.Bool.{cases_Bool}
use Rattle.std.proofs.lemmas.Bool.Decides.{leb_tells}
use Rattle.isdbt_base.specs.Outcome.{first_some}
use Rattle.tmcc_word.specs.CyclicCode.{parity_of}
use Rattle.tmcc_word.proofs.Codewords.{codeword-parity}
use Rattle.tmcc_fix.specs.declared.answer.Fixed.{Fixed}
use Rattle.tmcc_fix.specs.declared.answer.Fixed.TheVariants.{Restored, Far}
use Rattle.tmcc_fix.specs.Answers.{IsAnswer}
use Rattle.tmcc_fix.specs.NearCodewords.{differing, IsNear, near_from, near_codeword}
use Rattle.tmcc_fix.specs.Corrected.{with_codeword, corrected}
use Rattle.tmcc_fix.proofs.OneNear.{one_near}
use Rattle.tmcc_fix.proofs.Systematic.{length-parity, parity-from_codeword}

of_two-some : (a b : Option (List Bool)) (c : List Bool) → first_some (a ∷ b ∷ []) ≡ Some c → (a ≡ Some c) ⊎ (b ≡ Some c)
of_two-some None None c e = cc
of_two-some None (Some b) c e = inr e
of_two-some (Some a) b c e = inl e

of_two-none : (a b : Option (List Bool)) → first_some (a ∷ b ∷ []) ≡ None → (a ≡ None) × (b ≡ None)
of_two-none None None e = (refl, refl)
of_two-none None (Some b) e = cc
of_two-none (Some a) b e = cc

length-more : (info : List Bool) (b : Bool) (k : ℕ) → length info + suc k ≡ 102 → length (info ++ b ∷ []) + k ≡ 102
length-more info b k e = let l = length-append info (b ∷ []) in omega (arith, l, e)

-- what is found is near
found-near : (more : ℕ) (info bits c : List Bool) → length info + more ≡ 102 → length bits ≡ 184 → near_from more info bits ≡ Some c → IsNear bits c
unfolding near_from
found-near zero info bits c e size f =
    let all : length info ≡ 102 = omega arith in
    let word = info ++ parity_of info in
    let long : length word ≡ length bits = length-append info (parity_of info) ∙ (let p = length-parity info in omega (arith, p, all, size)) in
    elim (leb_tells (differing bits word) 8) [
      | inl close ↦ (let same : Some word ≡ Some c = ap (λ t. if t then Some word else None) (sym close.0) ∙ f in
          let is : word ≡ c = cc in
          subst (IsNear bits) is (record { codeword = codeword-parity info all; size = long; close = close.1 }))
      | inr far ↦ (let none : None ≡ Some c = ap (λ t. if t then Some word else None) (sym far.0) ∙ f in cc)
    ]
found-near (suc more) info bits c e size f =
    elim (of_two-some (near_from more (info ++ false ∷ []) bits) (near_from more (info ++ true ∷ []) bits) c f) [
      | inl a ↦ found-near more (info ++ false ∷ []) bits c (length-more info false more e) size a
      | inr b ↦ found-near more (info ++ true ∷ []) bits c (length-more info true more e) size b
    ]

-- where none is found, none is near
take-next : (info near : List Bool) (b : Bool) → length info < length near → take (length info) near ≡ info → get_or near (length info) false ≡ b → take (length (info ++ b ∷ [])) near ≡ info ++ b ∷ []
take-next info near b h e g =
    ap (λ n. take n near) (length-append info (b ∷ [])) ∙ take_more near (length info) false h ∙ ap (λ l. l ++ get_or near (length info) false ∷ []) e ∙ ap (λ x. info ++ x ∷ []) g

none-near : (more : ℕ) (info bits near : List Bool) → length info + more ≡ 102 → length bits ≡ 184 → near_from more info bits ≡ None → IsNear bits near → take (length info) near ≡ info → ⊥
unfolding near_from
none-near zero info bits near e size f is begins =
    let all : length info ≡ 102 = omega arith in
    let word = info ++ parity_of info in
    let begin : take 102 near ≡ info = ap (λ n. take n near) (sym all) ∙ begins in
    let rest : drop 102 near ≡ parity_of info = parity-from_codeword near (is.size ∙ size) is.codeword ∙ ap parity_of begin in
    let whole : near ≡ word = sym (take-append-drop 102 near) ∙ ap (λ l. l ++ drop 102 near) begin ∙ ap (λ l. info ++ l) rest in
    let near_close : differing bits word ≤ 8 = subst (λ l. differing bits l ≤ 8) whole is.close in
    elim (leb_tells (differing bits word) 8) [
      | inl close ↦ (let some : Some word ≡ None = ap (λ t. if t then Some word else None) (sym close.0) ∙ f in cc)
      | inr far ↦ (let g = far.1 in omega (arith, g, near_close))
    ]
none-near (suc more) info bits near e size f is begins =
    let both = of_two-none (near_from more (info ++ false ∷ []) bits) (near_from more (info ++ true ∷ []) bits) f in
    let long = is.size in
    let inside : length info < length near = omega (arith, long, size, e) in
    elim (cases_Bool (get_or near (length info) false)) [
      | inl one ↦ none-near more (info ++ true ∷ []) bits near (length-more info true more e) size both.1 is (take-next info near true inside begins one)
      | inr off ↦ none-near more (info ++ false ∷ []) bits near (length-more info false more e) size both.0 is (take-next info near false inside begins off)
    ]

-- ---- the definition of the near codeword

pub is-near : (bits near : List Bool) → length bits ≡ 184 → near_codeword bits ≡ Some near → IsNear bits near
is-near bits near size f = found-near 102 [] bits near refl size f

by_answer : (bits near : List Bool) (o : Option (List Bool)) → length bits ≡ 184 → near_codeword bits ≡ o → IsNear bits near → o ≡ Some near
by_answer bits near None size e is = absurd (none-near 102 [] bits near refl size e is refl)
by_answer bits near (Some c) size e is = ap Some (one_near bits c near size (is-near bits c size e) is)

pub near-is : (bits near : List Bool) → length bits ≡ 184 → IsNear bits near → near_codeword bits ≡ Some near
near-is bits near size is = by_answer bits near (near_codeword bits) size refl is

without_answer : (bits : List Bool) (o : Option (List Bool)) → length bits ≡ 184 → near_codeword bits ≡ o → ((near : List Bool) → IsNear bits near → ⊥) → o ≡ None
without_answer bits None size e far = refl
without_answer bits (Some c) size e far = absurd (far c (is-near bits c size e))

pub none-is : (bits : List Bool) → length bits ≡ 184 → ((near : List Bool) → IsNear bits near → ⊥) → near_codeword bits ≡ None
none-is bits size far = without_answer bits (near_codeword bits) size refl far

-- ---- the corrected word

tail-size : (word : List Bool) → length word ≡ 204 → length (drop 20 word) ≡ 184
tail-size word e = length-drop 20 word ∙ (omega arith)

pub corrected-near : (word near : List Bool) → length word ≡ 204 → IsNear (drop 20 word) near → corrected word ≡ take 20 word ++ near
corrected-near word near e is = ap (with_codeword word) (near-is (drop 20 word) near (tail-size word e) is)

pub corrected-far : (word : List Bool) → length word ≡ 204 → ((near : List Bool) → IsNear (drop 20 word) near → ⊥) → corrected word ≡ word
corrected-far word e far = ap (with_codeword word) (none-is (drop 20 word) (tail-size word e) far)

first_twenty : (word near : List Bool) → length word ≡ 204 → take 20 (take 20 word ++ near) ≡ take 20 word
first_twenty word near e =
    let size : 20 ≡ length (take 20 word) = sym (length-take-le 20 word (omega arith)) in
    ap (λ n. take n (take 20 word ++ near)) size ∙ take-append_seam (take 20 word) near

behind_twenty : (word near : List Bool) → length word ≡ 204 → drop 20 (take 20 word ++ near) ≡ near
behind_twenty word near e =
    let size : 20 ≡ length (take 20 word) = sym (length-take-le 20 word (omega arith)) in
    ap (λ n. drop n (take 20 word ++ near)) size ∙ drop-append_seam (take 20 word) near

with-start : (word : List Bool) (o : Option (List Bool)) → length word ≡ 204 → take 20 (with_codeword word o) ≡ take 20 word
with-start word None e = refl
with-start word (Some near) e = first_twenty word near e

pub corrected-start : (word : List Bool) → length word ≡ 204 → take 20 (corrected word) ≡ take 20 word
corrected-start word e = with-start word (near_codeword (drop 20 word)) e

pub corrected-rest : (word near : List Bool) → length word ≡ 204 → IsNear (drop 20 word) near → drop 20 (corrected word) ≡ near
corrected-rest word near e is = ap (drop 20) (corrected-near word near e is) ∙ behind_twenty word near e

-- the answer is the corrected word
pub corrected-answer : (old new : List Bool) (answer : Fixed) → length old ≡ 204 → IsAnswer old new answer → new ≡ corrected old
corrected-answer old new (Restored changed) e is =
    sym (corrected-near old (drop 20 new) e is.0 ∙ ap (λ l. l ++ drop 20 new) (sym is.1) ∙ take-append-drop 20 new)
corrected-answer old new Far e is = is.0 ∙ sym (corrected-far old e is.1)
