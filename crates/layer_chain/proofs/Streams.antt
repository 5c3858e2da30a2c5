-- The first items of a stream, piece after piece.
use Rattle.std.proofs.Common.{◌≡◌, ℕ, ◌+◌, ◌-◌, ◌<◌, List, [], ◌++◌, length, get_or, inl, inr, refl, sym, ap, ◌∙◌, arith, length-append}
use Rattle.std.proofs.lemmas.Bool.{cases_lt}
use Rattle.std.proofs.lemmas.List.{ext_get_or, get_or_append_left, get_or-append_right}
use Rattle.std.proofs.lemmas.List.FromFn.{length-map-range_with_len, get_or-map-range_with_len}
use Rattle.conv_punct.specs.StandsFor.{BeginsWith}
use Rattle.layer_chain.specs.Streams.{first_of, AreItems}

module _ {X : Type 0} where
  pub length-first_of : (f : ℕ → X) (n : ℕ) → length (first_of f n) ≡ n
  unfolding first_of
  length-first_of f n = length-map-range_with_len f 0 n

  pub get_or-first_of : (f : ℕ → X) (n i : ℕ) (d : X) → i < n → get_or (first_of f n) i d ≡ f i
  unfolding first_of
  get_or-first_of f n i d h = get_or-map-range_with_len f 0 n i i d h (omega arith)

  pub first_of-none : (f : ℕ → X) (n : ℕ) → n ≡ 0 → first_of f n ≡ []
  unfolding first_of
  first_of-none f n none = rw none refl

  -- the first n of a stream, and then the next m
  pub first_of-add : (d : X) (f : ℕ → X) (n m : ℕ) (xs : List X) → AreItems d f n m xs → first_of f n ++ xs ≡ first_of f (n + m)
  first_of-add d f n m xs items =
      let front = length-first_of f n in
      let whole = length-first_of f (n + m) in
      ext_get_or d (first_of f n ++ xs) (first_of f (n + m)) (length-append (first_of f n) xs ∙ omega (arith, front, whole, items.size)) (λ i h.
      let within : i < n + m = (let e = length-append (first_of f n) xs in omega (arith, e, front, items.size, h)) in
      elim (cases_lt i n) [
        | inl k ↦ get_or_append_left (first_of f n) xs d i (omega (arith, front, k)) ∙ get_or-first_of f n i d k ∙ sym (get_or-first_of f (n + m) i d within)
        | inr k ↦ get_or-append_right (first_of f n) xs n i d front k ∙ items.each (i - n) (omega arith) ∙ ap f (omega arith) ∙ sym (get_or-first_of f (n + m) i d within)
      ])

-- ---- items of a stream

module _ {X : Type 0} where
  -- a list that was read as another
  pub AreItems-read : (d : X) (s : ℕ → X) (n m : ℕ) (x y : List X) → AreItems d s n m x → y ≡ x → AreItems d s n (length y) y
  AreItems-read d s n m x y items is = record {
    size = refl;
    each = λ i h. ap (λ xs. get_or xs i d) is ∙ items.each i (omega (arith, h, ap length is, items.size));
  }

  -- another stream with the same items, and another count
  pub AreItems-same : (d : X) (s t : ℕ → X) (n m k : ℕ) (x : List X) → AreItems d s n m x → m ≡ k → ((i : ℕ) → i < k → s (n + i) ≡ t (n + i)) → AreItems d t n k x
  AreItems-same d s t n m k x items count same = record {
    size = items.size ∙ count;
    each = λ i h. items.each i (omega (arith, h, count)) ∙ same i h;
  }

-- the first bytes of a stream and the next ones begin it
pub first_of-begins : (s : ℕ → ℕ) (n m : ℕ) (x : List ℕ) → AreItems 0 s n m x → BeginsWith s (first_of s n ++ x)
first_of-begins s n m x items = rw (first_of-add 0 s n m x items) (λ k h. sym (get_or-first_of s (n + m) k 0 (omega (arith, h, length-first_of s (n + m)))))
