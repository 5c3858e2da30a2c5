-- Delay lines: one more feed, and the items one by one.
use Rattle.std.proofs.Common.{◌≡◌, ℕ, ◌+◌, ◌-◌, ◌<◌, ◌≤◌, List, [], ◌++◌, length, take, drop, replicate, get_or, min, ◌⊎◌, inl, inr, sym, ◌∙◌, ap, arith, append_assoc, length-append, length-drop}
use Rattle.std.proofs.lemmas.List.{length-take-le, length-replicate, get_or-replicate, get_or-take, get_or_append_left, get_or-append_right, get_or-append-add, take_at, drop_at, drop-drop, drop-append-le, take-append-le, take-append-drop, take_all, drop_all, append-nil}
use Rattle.std.proofs.lemmas.Bool.{le-leb, lt-leb, cases_lt}
use Rattle.std.proofs.Math.Seq.{take-add}
use Rattle.circular_buffer.specs.Buffer.{Buffer, buffer}
use Rattle.delay_line.specs.Lines.{fed, held_after, given_for, item_of, delayed}

module _ {X : Type 0} where
  length-fed : (d : ℕ) (fill : X) (h : List X) → length (fed d fill h) ≡ d + length h
  length-fed d fill h = length-append (replicate d fill) h ∙ ap (λ n. n + length h) (length-replicate d fill)

  pub length-held_after : (d : ℕ) (fill : X) (h : List X) → length (held_after d fill h) ≡ d
  unfolding held_after
  length-held_after d fill h = length-drop (length h) (fed d fill h) ∙ omega (arith, length-fed d fill h)

  pub length-given_for : (d : ℕ) (fill : X) (h : List X) → length (given_for d fill h) ≡ length h
  unfolding given_for
  length-given_for d fill h = length-take-le (length h) (fed d fill h) (omega (arith, length-fed d fill h))

  -- a new line holds its fills
  pub held_after-nil : (d : ℕ) (fill : X) → held_after d fill [] ≡ replicate d fill
  unfolding held_after
  held_after-nil d fill = append-nil (replicate d fill)

  -- what is held after h, and then x, is what is held after h ++ x, behind as many items as x has
  fed-append : (d : ℕ) (fill : X) (h x : List X) → drop (length h) (fed d fill (h ++ x)) ≡ held_after d fill h ++ x
  unfolding held_after
  fed-append d fill h x =
      ap (drop (length h)) (sym (append_assoc (replicate d fill) h x))
      ∙ drop-append-le (length h) (fed d fill h) x (omega (arith, length-fed d fill h))

  -- what is held after one more feed
  pub held_after-append : (d : ℕ) (fill : X) (h x y held held' : List X) → held ≡ held_after d fill h → length y ≡ length x → held ++ x ≡ y ++ held' → held' ≡ held_after d fill (h ++ x)
  unfolding held_after
  held_after-append d fill h x y held held' was same e =
      sym (drop_at y held' (length x) same)
      ∙ ap (drop (length x)) (sym e ∙ ap (λ z. z ++ x) was ∙ sym (fed-append d fill h x))
      ∙ drop-drop (length x) (length h) (fed d fill (h ++ x))
      ∙ ap (λ n. drop n (fed d fill (h ++ x))) (sym (length-append h x))

  -- what has gone out after one more feed
  pub given_for-append : (d : ℕ) (fill : X) (h x y held held' : List X) → held ≡ held_after d fill h → length y ≡ length x → held ++ x ≡ y ++ held' → given_for d fill (h ++ x) ≡ given_for d fill h ++ y
  unfolding given_for
  given_for-append d fill h x y held held' was same e =
      ap (λ n. take n (fed d fill (h ++ x))) (length-append h x)
      ∙ take-add (length h) (length x) (fed d fill (h ++ x))
      ∙ ap (λ z. take (length h) (fed d fill (h ++ x)) ++ take (length x) z) (fed-append d fill h x ∙ ap (λ z. z ++ x) (sym was) ∙ e)
      ∙ ap (λ z. take (length h) (fed d fill (h ++ x)) ++ z) (take_at y held' (length x) same)
      ∙ ap (λ z. take (length h) z ++ y) (sym (append_assoc (replicate d fill) h x))
      ∙ ap (λ z. z ++ y) (take-append-le (length h) (fed d fill h) x (omega (arith, length-fed d fill h)))

  pub delayed-early : (d : ℕ) (fill : X) (stream : ℕ → X) (n : ℕ) → n < d → delayed d fill stream n ≡ fill
  unfolding delayed
  delayed-early d fill stream n early = rw (lt-leb d n early)

  pub delayed-late : (d : ℕ) (fill : X) (stream : ℕ → X) (n : ℕ) → d ≤ n → delayed d fill stream n ≡ stream (n - d)
  unfolding delayed
  delayed-late d fill stream n late = rw (le-leb d n late)

  -- streams that agree up to n come late alike at n
  delayed-same : (d : ℕ) (fill : X) (s t : ℕ → X) (n : ℕ) → ((k : ℕ) → k ≤ n → s k ≡ t k) → (n < d) ⊎ (d ≤ n) → delayed d fill s n ≡ delayed d fill t n
  delayed-same d fill s t n agree (inl early) = delayed-early d fill s n early ∙ sym (delayed-early d fill t n early)
  delayed-same d fill s t n agree (inr late) =
      delayed-late d fill s n late ∙ agree (n - d) (omega arith) ∙ sym (delayed-late d fill t n late)

  pub delayed-agree : (d : ℕ) (fill : X) (s t : ℕ → X) (n : ℕ) → ((k : ℕ) → k ≤ n → s k ≡ t k) → delayed d fill s n ≡ delayed d fill t n
  delayed-agree d fill s t n agree = delayed-same d fill s t n agree (cases_lt n d)

  -- a delay behind a delay
  delayed-twice : (a b : ℕ) (fill : X) (s : ℕ → X) (n : ℕ) → b ≤ n → (n - b < a) ⊎ (a ≤ n - b) → delayed a fill s (n - b) ≡ delayed (a + b) fill s n
  delayed-twice a b fill s n behind (inl early) =
      delayed-early a fill s (n - b) early ∙ sym (delayed-early (a + b) fill s n (omega (arith, early)))
  delayed-twice a b fill s n behind (inr late) =
      delayed-late a fill s (n - b) late ∙ ap s (omega arith) ∙ sym (delayed-late (a + b) fill s n (omega (arith, late, behind)))

  delayed-behind : (a b : ℕ) (fill : X) (s t : ℕ → X) (n : ℕ) → (b ≤ n → t (n - b) ≡ delayed a fill s (n - b)) → (n < b) ⊎ (b ≤ n) → delayed b fill t n ≡ delayed (a + b) fill s n
  delayed-behind a b fill s t n first (inl early) =
      delayed-early b fill t n early ∙ sym (delayed-early (a + b) fill s n (omega (arith, early)))
  delayed-behind a b fill s t n first (inr late) =
      delayed-late b fill t n late ∙ first late ∙ delayed-twice a b fill s n late (cases_lt (n - b) a)

  pub delayed-delayed : (a b : ℕ) (fill : X) (s t : ℕ → X) (n : ℕ) → (b ≤ n → t (n - b) ≡ delayed a fill s (n - b)) → delayed b fill t n ≡ delayed (a + b) fill s n
  delayed-delayed a b fill s t n first = delayed-behind a b fill s t n first (cases_lt n b)

  -- item n of the fills and h
  get_or-fed : (d : ℕ) (fill : X) (h : List X) (n : ℕ) → (n < d) ⊎ (d ≤ n) → get_or (fed d fill h) n fill ≡ delayed d fill (item_of fill h) n
  get_or-fed d fill h n (inl early) =
      get_or_append_left (replicate d fill) h fill n (omega (arith, early, length-replicate d fill))
      ∙ get_or-replicate d n fill fill early ∙ sym (delayed-early d fill (item_of fill h) n early)
  get_or-fed d fill h n (inr late) =
      get_or-append_right (replicate d fill) h d n fill (length-replicate d fill) late
      ∙ sym (delayed-late d fill (item_of fill h) n late)

  -- item n that has gone out
  pub get_or-given_for : (d : ℕ) (fill : X) (h : List X) (n : ℕ) → n < length h → get_or (given_for d fill h) n fill ≡ delayed d fill (item_of fill h) n
  unfolding given_for
  get_or-given_for d fill h n inside =
      get_or-take (length h) (fed d fill h) n fill inside ∙ get_or-fed d fill h n (cases_lt n d)

  -- item n of one more feed
  pub get_or-output : (d : ℕ) (fill : X) (h x y held held' : List X) → held ≡ held_after d fill h → length y ≡ length x → held ++ x ≡ y ++ held' → (n : ℕ) → n < length x → get_or y n fill ≡ delayed d fill (item_of fill (h ++ x)) (length h + n)
  get_or-output d fill h x y held held' was same e n inside =
      sym (get_or-append-add (given_for d fill h) y n fill)
      ∙ ap (λ m. get_or (given_for d fill h ++ y) (m + n) fill) (length-given_for d fill h)
      ∙ ap (λ z. get_or z (length h + n) fill) (sym (given_for-append d fill h x y held held' was same e))
      ∙ get_or-given_for d fill (h ++ x) (length h + n) (omega (arith, inside, length-append h x))

-- a feed takes all that is held, or lets nothing pass
feed-cases : (a b n : ℕ) → n ≡ min a b → (n ≡ b) ⊎ (a - n ≡ 0)
feed-cases a b n is = elim (cases_lt a b) [ inl below ↦ inr (omega arith) | inr above ↦ inl (omega arith) ]

module _ {X : Type 0} where
  feed-all : (held input : List X) (m : ℕ) → take (length held) held ++ take m input ++ (drop (length held) held ++ drop m input) ≡ held ++ input
  feed-all held input m =
      ap (λ z. z ++ take m input ++ (drop (length held) held ++ drop m input)) (take_all (length held) held (omega arith))
      ∙ ap (λ z. held ++ take m input ++ (z ++ drop m input)) (drop_all (length held) held (omega arith))
      ∙ append_assoc held (take m input) (drop m input)
      ∙ ap (λ z. held ++ z) (take-append-drop m input)

  feed-some : (held input : List X) (n : ℕ) → take n held ++ take 0 input ++ (drop n held ++ drop 0 input) ≡ held ++ input
  feed-some held input n =
      ap (λ z. z ++ (drop n held ++ input)) (append-nil (take n held))
      ∙ sym (append_assoc (take n held) (drop n held) input)
      ∙ ap (λ z. z ++ input) (take-append-drop n held)

  feed-by : (held input : List X) (n m : ℕ) → (n ≡ length held) ⊎ (m ≡ 0) → take n held ++ take m input ++ (drop n held ++ drop m input) ≡ held ++ input
  feed-by held input n m (inl all) = rw all (feed-all held input m)
  feed-by held input n m (inr some) = rw some (feed-some held input n)

  -- what a feed of as many items as old has writes and leaves, n of them from what was held
  pub feed-held : (held input old : List X) (n : ℕ) → n ≡ min (length old) (length held) → length input ≡ length old → held ++ input ≡ take n held ++ take (length input - n) input ++ (drop n held ++ drop (length input - n) input)
  feed-held held input old n is same =
      sym (feed-by held input n (length input - n) (feed-cases (length input) (length held) n (is ∙ ap (λ k. min k (length held)) (sym same))))

  -- the same of what the calls of a feed say: the ring after the read, and after the fill
  pub feed-clause : (held input old dst passing kept : List X) (cap n r : ℕ) (read filled : Buffer X) → n ≡ min (length old) (length held) → length input ≡ length old → length held ≡ cap → dst ≡ take n held ++ drop n old → read ≡ buffer (drop n held) cap → passing ≡ take (length input - n) input → kept ≡ drop (length input - n) input → r ≡ min (length kept) (read.capacity - length read.items) → filled ≡ buffer (read.items ++ take r kept) read.capacity → held ++ input ≡ take n dst ++ (passing ++ drop (length dst - n) (drop n dst)) ++ filled.items
  feed-clause held input old dst passing kept cap n r read filled count same full dst_is read_is passing_is kept_is r_is filled_is =
      let front : take n dst ≡ take n held = ap (take n) dst_is ∙ take_at (take n held) (drop n old) n (length-take-le n held (omega arith)) in
      let none : drop (length dst - n) (drop n dst) ≡ [] = drop_all (length dst - n) (drop n dst) (omega (arith, length-drop n dst)) in
      let items : read.items ≡ drop n held = ap (λ b. b.items) read_is in
      let room : read.capacity ≡ cap = ap (λ b. b.capacity) read_is in
      let some : length kept ≡ n = ap length kept_is ∙ omega (arith, length-drop (length input - n) input) in
      let spare : cap - length (drop n held) ≡ n = omega (arith, length-drop n held) in
      let r_all : r ≡ n = r_is ∙ ap (λ k. min k (read.capacity - length read.items)) some ∙ ap (λ k. min n (k - length read.items)) room ∙ ap (λ k. min n (cap - length k)) items ∙ ap (min n) spare ∙ omega arith in
      let whole : take r kept ≡ kept = take_all r kept (omega arith) in
      let all : filled.items ≡ drop n held ++ kept = ap (λ b. b.items) filled_is ∙ ap (λ z. z ++ take r kept) items ∙ ap (λ z. drop n held ++ z) whole in
      rw (front, none, append-nil, all, passing_is, kept_is) (feed-held held input old n count same)
