-- The items on one path, turn after turn.
use Rattle.std.proofs.Common.{◌≡◌, ◌≢◌, ℕ, ◌+◌, ◌-◌, ◌*◌, ◌/◌, ◌%◌, ◌<◌, ◌≤◌, ◌⊎◌, inl, inr, List, [], ◌∷◌, ◌++◌, length, get_or, set, take, refl, sym, ◌∙◌, ap, arith, append_assoc, length-append}
use Rattle.std.proofs.lemmas.Bool.{cases_lt, cases_eq}
use Rattle.std.proofs.lemmas.Nat.{mod-mul-add}
use Rattle.std.proofs.lemmas.List.{ext_get_or, append-nil, get_or-set_same, get_or-set_other, get_or_read, get_or_append_left, get_or-append_right, append_cancel_left, take_at}
use Rattle.std.proofs.lemmas.List.FromFn.{length-map-range_with_len, get_or-map-range_with_len, map-range_with_len_more}
use Rattle.delay_line.specs.Lines.{item_of}
use Rattle.delay_line.specs.Stages.{turn_items, path_items}
use Rattle.delay_line.proofs.Turns.{before-place}

cases_next : (p path : ℕ) → p < path + 1 → (p < path) ⊎ (p ≡ path)
cases_next p path before = elim (cases_lt p path) [ inl below ↦ inl below | inr above ↦ inr (omega arith) ]

cases_eq' : (p path : ℕ) → (p ≢ path) ⊎ (p ≡ path)
cases_eq' p path = elim (cases_eq p path) [ inl same ↦ inr same | inr other ↦ inl other ]

-- the path of a place
pub path-place : (w turn p : ℕ) → p < w → (w * turn + p) % w ≡ p
path-place w turn p path = ap (λ n. n % w) (omega arith) ∙ mod-mul-add turn w p path

module _ {X : Type 0} where
  pub length-turn_items : (w : ℕ) (d : X) (xs : List X) (p first count : ℕ) → length (turn_items w d xs p first count) ≡ count
  unfolding turn_items
  length-turn_items w d xs p first count = length-map-range_with_len (λ k. item_of d xs (w * k + p)) first count

  pub get_or-turn_items : (w : ℕ) (d : X) (xs : List X) (p first count i : ℕ) (e : X) → i < count → get_or (turn_items w d xs p first count) i e ≡ item_of d xs (w * (first + i) + p)
  unfolding turn_items
  get_or-turn_items w d xs p first count i e inside = get_or-map-range_with_len (λ k. item_of d xs (w * k + p)) first count i (first + i) e inside refl

  turn_items-none : (w : ℕ) (d : X) (xs : List X) (p first : ℕ) → turn_items w d xs p first 0 ≡ []
  unfolding turn_items
  turn_items-none w d xs p first = refl

  turn_items-more : (w : ℕ) (d : X) (xs : List X) (p first turn : ℕ) → turn_items w d xs p first (turn + 1) ≡ turn_items w d xs p first turn ++ item_of d xs (w * (first + turn) + p) ∷ []
  unfolding turn_items
  turn_items-more w d xs p first turn = map-range_with_len_more (λ k. item_of d xs (w * k + p)) first turn (first + turn) refl

  turn_items-same : (w : ℕ) (d : X) (xs ys : List X) (p first first' count : ℕ) → ((k : ℕ) → k < count → item_of d xs (w * (first + k) + p) ≡ item_of d ys (w * (first' + k) + p)) → turn_items w d xs p first count ≡ turn_items w d ys p first' count
  turn_items-same w d xs ys p first first' count same =
      ext_get_or d (turn_items w d xs p first count) (turn_items w d ys p first' count) (length-turn_items w d xs p first count ∙ sym (length-turn_items w d ys p first' count))
      (λ k inside.
      let before : k < count = omega (arith, inside, length-turn_items w d xs p first count) in
      get_or-turn_items w d xs p first count k d before ∙ same k before ∙ sym (get_or-turn_items w d ys p first' count k d before))

  -- the items of some turns, and those of the turns behind them
  turn_items-at : (w : ℕ) (d : X) (xs : List X) (p first a b i : ℕ) → i < a + b → (i < a) ⊎ (a ≤ i) → item_of d xs (w * (first + i) + p) ≡ get_or (turn_items w d xs p first a ++ turn_items w d xs p (first + a) b) i d
  turn_items-at w d xs p first a b i inside (inl before) =
      sym (get_or-turn_items w d xs p first a i d before)
      ∙ sym (get_or_append_left (turn_items w d xs p first a) (turn_items w d xs p (first + a) b) d i (omega (arith, before, length-turn_items w d xs p first a)))
  turn_items-at w d xs p first a b i inside (inr behind) =
      ap (λ k. item_of d xs (w * k + p)) (omega arith)
      ∙ sym (get_or-turn_items w d xs p (first + a) b (i - a) d (omega arith))
      ∙ sym (get_or-append_right (turn_items w d xs p first a) (turn_items w d xs p (first + a) b) a i d (length-turn_items w d xs p first a) behind)

  turn_items-split : (w : ℕ) (d : X) (xs : List X) (p first a b : ℕ) → turn_items w d xs p first (a + b) ≡ turn_items w d xs p first a ++ turn_items w d xs p (first + a) b
  turn_items-split w d xs p first a b =
      ext_get_or d (turn_items w d xs p first (a + b)) (turn_items w d xs p first a ++ turn_items w d xs p (first + a) b)
      (omega (arith, length-turn_items w d xs p first (a + b), length-append (turn_items w d xs p first a) (turn_items w d xs p (first + a) b), length-turn_items w d xs p first a, length-turn_items w d xs p (first + a) b))
      (λ i inside.
      let before : i < a + b = omega (arith, inside, length-turn_items w d xs p first (a + b)) in
      get_or-turn_items w d xs p first (a + b) i d before ∙ turn_items-at w d xs p first a b i before (cases_lt i a))

  path_items-turns : (w : ℕ) (d : X) (xs : List X) (p : ℕ) → path_items w d xs p ≡ turn_items w d xs p 0 (length xs / w)
  unfolding path_items
  path_items-turns w d xs p = refl

  path_items-same : (w : ℕ) (d : X) (xs ys : List X) (p : ℕ) → length xs ≡ length ys → ((n : ℕ) → n % w ≡ p → item_of d xs n ≡ item_of d ys n) → p < w → path_items w d xs p ≡ path_items w d ys p
  path_items-same w d xs ys p long same path =
      path_items-turns w d xs p ∙ turn_items-same w d xs ys p 0 0 (length xs / w) (λ k inside. same (w * (0 + k) + p) (path-place w (0 + k) p path))
      ∙ ap (λ n. turn_items w d ys p 0 (n / w)) long ∙ sym (path_items-turns w d ys p)

  -- so many turns of one path have been exchanged
  pub record ExchangedTurns (w p skipped : ℕ) (held0 held1 input output0 output : List X) (turn : ℕ) : Type 0 where
    pub held : (d : X) → held0 ++ turn_items w d input p skipped turn ≡ turn_items w d output p 0 turn ++ held1
    pub others : (n : ℕ) (d : X) → n % w ≢ p → get_or output n d ≡ get_or output0 n d
    pub later : (k : ℕ) (d : X) → turn ≤ k → get_or output (w * k + p) d ≡ get_or output0 (w * k + p) d
    pub delay : length held1 ≡ length held0

  pub ExchangedTurns-none : (w p skipped : ℕ) (held input output : List X) → ExchangedTurns w p skipped held held input output output 0
  ExchangedTurns-none w p skipped held input output = record {
    held = λ d. rw (turn_items-none w d input p skipped, turn_items-none w d output p 0) (append-nil held);
    others = λ n d other. refl;
    later = λ k d behind. refl;
    delay = refl;
  }

  pub ExchangedTurns-more : (w p skipped : ℕ) (held0 held held' input output0 output : List X) (turn from to : ℕ) (x y : X) → p < w → from ≡ w * (skipped + turn) + p → to ≡ w * turn + p → from < length input → to < length output → x ≡ get_or input from x → held ++ x ∷ [] ≡ y ∷ held' → length held' ≡ length held → ExchangedTurns w p skipped held0 held input output0 output turn → ExchangedTurns w p skipped held0 held' input output0 (set output to y) (turn + 1)
  ExchangedTurns-more w p skipped held0 held held' input output0 output turn from to x y path from_is to_is inside room read stepped same so_far = record {
    held = λ d.
        let item : item_of d input (w * (skipped + turn) + p) ≡ x = ap (item_of d input) (sym from_is) ∙ sym (get_or_read input from x inside read d) in
        let written : item_of d (set output to y) (w * (0 + turn) + p) ≡ y = ap (item_of d (set output to y)) (omega arith) ∙ get_or-set_same output to y d room in
        let kept : turn_items w d (set output to y) p 0 turn ≡ turn_items w d output p 0 turn = turn_items-same w d (set output to y) output p 0 0 turn (λ k before. get_or-set_other output to (w * (0 + k) + p) y d (λ e. before-place w (0 + k) turn p (omega arith) (omega arith) (e ∙ to_is))) in
        ap (λ z. held0 ++ z) (turn_items-more w d input p skipped turn ∙ ap (λ z. turn_items w d input p skipped turn ++ z ∷ []) item)
        ∙ sym (append_assoc held0 (turn_items w d input p skipped turn) (x ∷ []))
        ∙ ap (λ z. z ++ x ∷ []) (so_far.held d)
        ∙ append_assoc (turn_items w d output p 0 turn) held (x ∷ [])
        ∙ ap (λ z. turn_items w d output p 0 turn ++ z) stepped
        ∙ sym (append_assoc (turn_items w d output p 0 turn) (y ∷ []) held')
        ∙ ap (λ z. z ++ held') (ap (λ z. z ++ y ∷ []) (sym kept) ∙ ap (λ z. turn_items w d (set output to y) p 0 turn ++ z ∷ []) (sym written) ∙ sym (turn_items-more w d (set output to y) p 0 turn));
    others = λ n d other. get_or-set_other output to n y d (λ e. other (ap (λ k. k % w) (e ∙ to_is) ∙ path-place w turn p path)) ∙ so_far.others n d other;
    later = λ k d behind. get_or-set_other output to (w * k + p) y d (λ e. before-place w turn k p (omega arith) (omega arith) (sym (e ∙ to_is))) ∙ so_far.later k d (omega arith);
    delay = same ∙ so_far.delay;
  }

  -- so many turns of one path have passed to a place as many turns later
  pub record PassedTurns (w p late : ℕ) (input output0 output : List X) (turn : ℕ) : Type 0 where
    pub passed : (k : ℕ) (d : X) → late + k < turn → get_or output (w * (late + k) + p) d ≡ get_or input (w * k + p) d
    pub others : (n : ℕ) (d : X) → n % w ≢ p → get_or output n d ≡ get_or output0 n d

  pub PassedTurns-none : (w p late : ℕ) (input output : List X) → PassedTurns w p late input output output late
  PassedTurns-none w p late input output = record {
    passed = λ k d before. absurd (omega arith);
    others = λ n d other. refl;
  }

  passed-at : (w p late : ℕ) (input output0 output : List X) (turn from to : ℕ) (x : X) (k : ℕ) (d : X) → p < w → late ≤ turn → from ≡ w * (turn - late) + p → to ≡ w * turn + p → from < length input → to < length output → x ≡ get_or input from x → PassedTurns w p late input output0 output turn → (late + k < turn) ⊎ (late + k ≡ turn) → get_or (set output to x) (w * (late + k) + p) d ≡ get_or input (w * k + p) d
  passed-at w p late input output0 output turn from to x k d path begun from_is to_is inside room read so_far (inl before) =
      get_or-set_other output to (w * (late + k) + p) x d (λ e. before-place w (late + k) turn p before (omega arith) (e ∙ to_is))
      ∙ so_far.passed k d before
  passed-at w p late input output0 output turn from to x k d path begun from_is to_is inside room read so_far (inr here) =
      ap (λ n. get_or (set output to x) n d) (ap (λ t. w * t + p) here ∙ sym to_is)
      ∙ get_or-set_same output to x d room
      ∙ get_or_read input from x inside read d
      ∙ ap (λ n. get_or input n d) (from_is ∙ ap (λ t. w * t + p) (omega arith))

  pub PassedTurns-more : (w p late : ℕ) (input output0 output : List X) (turn from to : ℕ) (x : X) → p < w → late ≤ turn → from ≡ w * (turn - late) + p → to ≡ w * turn + p → from < length input → to < length output → x ≡ get_or input from x → PassedTurns w p late input output0 output turn → PassedTurns w p late input output0 (set output to x) (turn + 1)
  PassedTurns-more w p late input output0 output turn from to x path begun from_is to_is inside room read so_far = record {
    passed = λ k d before. passed-at w p late input output0 output turn from to x k d path begun from_is to_is inside room read so_far (cases_next (late + k) turn before);
    others = λ n d other. get_or-set_other output to n x d (λ e. other (ap (λ k. k % w) (e ∙ to_is) ∙ path-place w turn p path)) ∙ so_far.others n d other;
  }

  -- all that was held has gone out, or nothing passed
  fed-by : (held0 held1 passed ins outs : List X) → held0 ++ ins ≡ outs ++ held1 → (length outs ≡ length held0) ⊎ (passed ≡ []) → held0 ++ (passed ++ ins) ≡ outs ++ passed ++ held1
  fed-by held0 held1 passed ins outs e (inl all) =
      let front : outs ≡ held0 = sym (take_at outs held1 (length held0) all) ∙ ap (take (length held0)) (sym e) ∙ take_at held0 ins (length held0) refl in
      let back : held1 ≡ ins = append_cancel_left held0 held1 ins (ap (λ z. z ++ held1) (sym front) ∙ sym e) in
      rw (front, back) (sym (append_assoc held0 passed ins))
  fed-by held0 held1 passed ins outs e (inr none) = rw none (e ∙ ap (λ z. z ++ held1) (sym (append-nil outs)))

  -- what a path has after the passing and the exchange
  pub path-held : (w p count turns : ℕ) (held0 held1 input output : List X) (d : X) → turns ≡ length input / w → turns ≡ length output / w → count ≤ turns → (count ≡ length held0) ⊎ (turns - count ≡ 0) → held0 ++ turn_items w d input p (turns - count) count ≡ turn_items w d output p 0 count ++ held1 → ((k : ℕ) → count + k < turns → item_of d output (w * (count + k) + p) ≡ item_of d input (w * k + p)) → held0 ++ path_items w d input p ≡ path_items w d output p ++ held1
  path-held w p count turns held0 held1 input output d turns_in turns_out within all exchanged passed =
      let early = turn_items w d input p 0 (turns - count) in
      let ins = turn_items w d input p (turns - count) count in
      let outs = turn_items w d output p 0 count in
      let late = turn_items w d output p count (turns - count) in
      let in_split : path_items w d input p ≡ early ++ ins =
      path_items-turns w d input p ∙ ap (λ n. turn_items w d input p 0 n) (sym turns_in ∙ omega arith) ∙ turn_items-split w d input p 0 (turns - count) count
      ∙ ap (λ n. early ++ turn_items w d input p n count) (omega arith)
      in
      let out_split : path_items w d output p ≡ outs ++ late =
      path_items-turns w d output p ∙ ap (λ n. turn_items w d output p 0 n) (sym turns_out ∙ omega arith) ∙ turn_items-split w d output p 0 count (turns - count)
      ∙ ap (λ n. outs ++ turn_items w d output p n (turns - count)) (omega arith)
      in
      let same : late ≡ early = turn_items-same w d output input p count 0 (turns - count) (λ k before. passed k (omega arith) ∙ ap (λ n. item_of d input (w * n + p)) (omega arith)) in
      rw (in_split, out_split, same) (fed-by held0 held1 early ins outs exchanged (elim all as (λ _. (length outs ≡ length held0) ⊎ (early ≡ [])) [ inl whole ↦ inl (length-turn_items w d output p 0 count ∙ whole) | inr none ↦ inr (ap (turn_items w d input p 0) none ∙ turn_items-none w d input p 0) ]))

  pub path-others : (w p q : ℕ) (output output1 output0 : List X) (d : X) → q < w → q ≢ p → length output ≡ length output0 → ((n : ℕ) (d : X) → n % w ≢ p → item_of d output1 n ≡ item_of d output0 n) → ((n : ℕ) (d : X) → n % w ≢ p → item_of d output n ≡ item_of d output1 n) → path_items w d output q ≡ path_items w d output0 q
  path-others w p q output output1 output0 d path other same first second =
      path_items-same w d output output0 q same (λ n e. second n d (λ f. other (sym e ∙ f)) ∙ first n d (λ f. other (sym e ∙ f))) path

  -- the paths before this one have been fed
  pub record FedPaths (w : ℕ) (bank0 bank : List (List X)) (input output : List X) (path : ℕ) : Type 0 where
    pub fed : (d : X) (p : ℕ) → p < path → get_or bank0 p [] ++ path_items w d input p ≡ path_items w d output p ++ get_or bank p []
    pub left : (p : ℕ) → path ≤ p → get_or bank p [] ≡ get_or bank0 p []
    pub paths : length bank ≡ length bank0
    pub delays : (p : ℕ) → length (get_or bank p []) ≡ length (get_or bank0 p [])
