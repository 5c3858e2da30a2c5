-- Stages: the items on each path, one more feed, and the items one by one.
use Rattle.std.proofs.Common.{◌≡◌, ℕ, ◌+◌, ◌-◌, ◌*◌, ◌/◌, ◌%◌, ◌<◌, ◌≤◌, ◌⊎◌, inl, inr, List, [], ◌++◌, length, get_or, replicate, refl, sym, ◌∙◌, ap, arith, length-append}
use Rattle.std.proofs.lemmas.Bool.{cases_lt}
use Rattle.std.proofs.lemmas.List.{ext_get_or, get_or_append_left, get_or-append_right, nil_from_length}
use Rattle.std.proofs.lemmas.List.FromFn.{length-map-range_with_len, get_or-map-range_with_len}
use Rattle.std.proofs.lemmas.Nat.{mod_below}
use Rattle.std.proofs.Math.Nat.{zero-div}
use Rattle.delay_line.specs.Lines.{held_after, item_of, delayed}
use Rattle.delay_line.specs.Stages.{Layout, turn_items, path_items, PassesOn, StandsFor, stage_item, stage_given}
use Rattle.delay_line.proofs.LineLaws.{held_after-nil, length-held_after, held_after-append, get_or-output, delayed-early, delayed-late, delayed-agree}
use Rattle.delay_line.proofs.Turns.{whole-turns, place-split, place-below, turn-below, turns-behind, path-behind, some-paths, turns-less}

module _ {X : Type 0} where
  pub length-path_items : (w : ℕ) (zero : X) (h : List X) (p : ℕ) → length (path_items w zero h p) ≡ length h / w
  unfolding path_items turn_items
  length-path_items w zero h p = length-map-range_with_len (λ turn. item_of zero h (w * turn + p)) 0 (length h / w)

  pub get_or-path_items : (w : ℕ) (zero : X) (h : List X) (p k : ℕ) (d : X) → k < length h / w → get_or (path_items w zero h p) k d ≡ item_of zero h (w * k + p)
  unfolding path_items turn_items
  get_or-path_items w zero h p k d inside = get_or-map-range_with_len (λ turn. item_of zero h (w * turn + p)) 0 (length h / w) k k d inside (omega arith)

  -- the items on a path of whole turns, and more behind them
  path_items-before : (w : ℕ) (zero : X) (h x : List X) (p i : ℕ) → length h % w ≡ 0 → p < w → i < length h / w → item_of zero (h ++ x) (w * i + p) ≡ get_or (path_items w zero h p ++ path_items w zero x p) i zero
  path_items-before w zero h x p i whole path inside =
      get_or_append_left h x zero (w * i + p) (omega (arith, place-below w i (length h / w) p inside path, whole-turns w (length h) whole))
      ∙ sym (get_or-path_items w zero h p i zero inside)
      ∙ sym (get_or_append_left (path_items w zero h p) (path_items w zero x p) zero i (omega (arith, inside, length-path_items w zero h p)))

  path_items-behind : (w : ℕ) (zero : X) (h x : List X) (p j : ℕ) → length h % w ≡ 0 → j < length x / w → item_of zero (h ++ x) (w * (length h / w + j) + p) ≡ get_or (path_items w zero h p ++ path_items w zero x p) (length h / w + j) zero
  path_items-behind w zero h x p j whole inside =
      get_or-append_right h x (length h) (w * (length h / w + j) + p) zero refl (omega (arith, whole-turns w (length h) whole))
      ∙ ap (λ n. get_or x n zero) (omega (arith, whole-turns w (length h) whole))
      ∙ sym (get_or-path_items w zero x p j zero inside)
      ∙ ap (λ n. get_or (path_items w zero x p) n zero) (omega arith)
      ∙ sym (get_or-append_right (path_items w zero h p) (path_items w zero x p) (length h / w) (length h / w + j) zero (length-path_items w zero h p) (omega arith))

  path_items-at : (w : ℕ) (zero : X) (h x : List X) (p i : ℕ) → length h % w ≡ 0 → p < w → i < length h / w + length x / w → (i < length h / w) ⊎ (length h / w ≤ i) → item_of zero (h ++ x) (w * i + p) ≡ get_or (path_items w zero h p ++ path_items w zero x p) i zero
  path_items-at w zero h x p i whole path inside (inl before) = path_items-before w zero h x p i whole path before
  path_items-at w zero h x p i whole path inside (inr behind) =
      let split : i ≡ length h / w + (i - length h / w) = omega arith in
      ap (λ k. item_of zero (h ++ x) (w * k + p)) split
      ∙ path_items-behind w zero h x p (i - length h / w) whole (omega arith)
      ∙ ap (λ k. get_or (path_items w zero h p ++ path_items w zero x p) k zero) (sym split)

  pub path_items-append : (w : ℕ) (zero : X) (h x : List X) (p : ℕ) → length h % w ≡ 0 → p < w → path_items w zero (h ++ x) p ≡ path_items w zero h p ++ path_items w zero x p
  path_items-append w zero h x p whole path =
      let some : 0 < w = omega arith in
      let turns : length (path_items w zero (h ++ x) p) ≡ length h / w + length x / w =
      length-path_items w zero (h ++ x) p ∙ ap (λ n. n / w) (length-append h x) ∙ turns-behind w (length h) (length x) some whole
      in
      let both : length (path_items w zero h p ++ path_items w zero x p) ≡ length h / w + length x / w = omega (arith, length-append (path_items w zero h p) (path_items w zero x p), length-path_items w zero h p, length-path_items w zero x p) in
      ext_get_or zero (path_items w zero (h ++ x) p) (path_items w zero h p ++ path_items w zero x p) (turns ∙ sym both)
      (λ i inside. get_or-path_items w zero (h ++ x) p i zero (omega (arith, inside, length-path_items w zero (h ++ x) p)) ∙ path_items-at w zero h x p i whole path (omega (arith, inside, turns)) (cases_lt i (length h / w)))

  -- by how many places a path of a stage is late
  delayed-path : (w d : ℕ) (zero : X) (g : List X) (p k : ℕ) → p < w → k < length g / w → (k < d) ⊎ (d ≤ k) → delayed d zero (item_of zero (path_items w zero g p)) k ≡ delayed (w * d) zero (item_of zero g) (w * k + p)
  delayed-path w d zero g p k path inside (inl early) =
      delayed-early d zero (item_of zero (path_items w zero g p)) k early
      ∙ sym (delayed-early (w * d) zero (item_of zero g) (w * k + p) (place-below w k d p early path))
  delayed-path w d zero g p k path inside (inr late) =
      delayed-late d zero (item_of zero (path_items w zero g p)) k late
      ∙ get_or-path_items w zero g p (k - d) zero (omega arith)
      ∙ ap (item_of zero g) (omega (arith, turns-less w d k late))
      ∙ sym (delayed-late (w * d) zero (item_of zero g) (w * k + p) (omega (arith, turns-less w d k late)))

  path_items-nil : (w : ℕ) (zero : X) (p : ℕ) → path_items w zero [] p ≡ []
  path_items-nil w zero p = nil_from_length (path_items w zero [] p) (length-path_items w zero [] p ∙ zero-div w)

  -- a new stage
  pub StandsFor-nil : (l : Layout X) (held : ℕ → List X) → ((p : ℕ) → p < l.paths → held p ≡ replicate (l.path_delay p) l.zero) → StandsFor l held []
  StandsFor-nil l held fills = λ p path.
      fills p path ∙ sym (held_after-nil (l.path_delay p) l.zero)
      ∙ ap (held_after (l.path_delay p) l.zero) (sym (path_items-nil l.paths l.zero p))

  pub length-StandsFor : (l : Layout X) (held : ℕ → List X) (h : List X) → StandsFor l held h → (p : ℕ) → p < l.paths → length (held p) ≡ l.path_delay p
  length-StandsFor l held h stands p path =
      ap length (stands p path) ∙ length-held_after (l.path_delay p) l.zero (path_items l.paths l.zero h p)

  same_turns : (w : ℕ) (zero : X) (x y : List X) (p : ℕ) → length y ≡ length x → length (path_items w zero y p) ≡ length (path_items w zero x p)
  same_turns w zero x y p same = length-path_items w zero y p ∙ ap (λ n. n / w) same ∙ sym (length-path_items w zero x p)

  -- what a stage stands for after one more feed
  pub StandsFor-append : (l : Layout X) (held held' : ℕ → List X) (h x y : List X) → StandsFor l held h → length h % l.paths ≡ 0 → length y ≡ length x → PassesOn l held x y held' → StandsFor l held' (h ++ x)
  StandsFor-append l held held' h x y stands whole same passes = λ p path.
      held_after-append (l.path_delay p) l.zero (path_items l.paths l.zero h p) (path_items l.paths l.zero x p) (path_items l.paths l.zero y p) (held p) (held' p) (stands p path) (same_turns l.paths l.zero x y p same) (passes p path)
      ∙ ap (held_after (l.path_delay p) l.zero) (sym (path_items-append l.paths l.zero h x p whole path))

  -- item n of one more feed
  pub get_or-stage_output : (l : Layout X) (held held' : ℕ → List X) (h x y : List X) → StandsFor l held h → length h % l.paths ≡ 0 → length x % l.paths ≡ 0 → length y ≡ length x → PassesOn l held x y held' → (n : ℕ) → n < length x → get_or y n l.zero ≡ stage_item l (item_of l.zero (h ++ x)) (length h + n)
  get_or-stage_output l held held' h x y stands whole whole_x same passes n inside =
      let w = l.paths in
      let some : 0 < w = some-paths w n (length x) whole_x inside in
      let p = n % w in
      let j = n / w in
      let path : p < w = mod_below n w some in
      let turn : j < length x / w = turn-below w n (length x) some whole_x inside in
      let hp = path_items w l.zero h p in
      let xp = path_items w l.zero x p in
      let yp = path_items w l.zero y p in
      let d = l.path_delay p in
      ap (λ m. get_or y m l.zero) (sym (place-split w n))
      ∙ sym (get_or-path_items w l.zero y p j l.zero (omega (arith, turn, ap (λ m. m / w) same)))
      ∙ get_or-output d l.zero hp xp yp (held p) (held' p) (stands p path) (same_turns w l.zero x y p same) (passes p path) j (omega (arith, turn, length-path_items w l.zero x p))
      ∙ ap (λ z. delayed d l.zero (item_of l.zero z) (length hp + j)) (sym (path_items-append w l.zero h x p whole path))
      ∙ ap (λ k. delayed d l.zero (item_of l.zero (path_items w l.zero (h ++ x) p)) (k + j)) (length-path_items w l.zero h p)
      ∙ delayed-path w d l.zero (h ++ x) p (length h / w + j) path (omega (arith, turn, ap (λ m. m / w) (length-append h x), turns-behind w (length h) (length x) some whole)) (cases_lt (length h / w + j) d)
      ∙ ap (delayed (w * d) l.zero (item_of l.zero (h ++ x))) (omega (arith, whole-turns w (length h) whole, place-split w n))
      ∙ ap (λ q. delayed (w * l.path_delay q) l.zero (item_of l.zero (h ++ x)) (length h + n)) (sym (path-behind w (length h) n whole))

  pub length-stage_given : (l : Layout X) (h : List X) → length (stage_given l h) ≡ length h
  unfolding stage_given
  length-stage_given l h = length-map-range_with_len (stage_item l (item_of l.zero h)) 0 (length h)

  pub get_or-stage_given : (l : Layout X) (h : List X) (n : ℕ) (d : X) → n < length h → get_or (stage_given l h) n d ≡ stage_item l (item_of l.zero h) n
  unfolding stage_given
  get_or-stage_given l h n d inside = get_or-map-range_with_len (stage_item l (item_of l.zero h)) 0 (length h) n n d inside (omega arith)

  stage_item-at : (l : Layout X) (held held' : ℕ → List X) (h x y : List X) → StandsFor l held h → length h % l.paths ≡ 0 → length x % l.paths ≡ 0 → length y ≡ length x → PassesOn l held x y held' → (n : ℕ) → n < length h + length x → (n < length h) ⊎ (length h ≤ n) → stage_item l (item_of l.zero (h ++ x)) n ≡ get_or (stage_given l h ++ y) n l.zero
  stage_item-at l held held' h x y stands whole whole_x same passes n inside (inl before) =
      delayed-agree (l.paths * l.path_delay (n % l.paths)) l.zero (item_of l.zero (h ++ x)) (item_of l.zero h) n (λ k below. get_or_append_left h x l.zero k (omega (arith, below, before)))
      ∙ sym (get_or-stage_given l h n l.zero before)
      ∙ sym (get_or_append_left (stage_given l h) y l.zero n (omega (arith, before, length-stage_given l h)))
  stage_item-at l held held' h x y stands whole whole_x same passes n inside (inr behind) =
      ap (stage_item l (item_of l.zero (h ++ x))) (omega arith)
      ∙ sym (get_or-stage_output l held held' h x y stands whole whole_x same passes (n - length h) (omega (arith, inside, behind)))
      ∙ sym (get_or-append_right (stage_given l h) y (length h) n l.zero (length-stage_given l h) behind)

  -- what has gone out after one more feed
  pub stage_given-append : (l : Layout X) (held held' : ℕ → List X) (h x y : List X) → StandsFor l held h → length h % l.paths ≡ 0 → length x % l.paths ≡ 0 → length y ≡ length x → PassesOn l held x y held' → stage_given l (h ++ x) ≡ stage_given l h ++ y
  stage_given-append l held held' h x y stands whole whole_x same passes =
      ext_get_or l.zero (stage_given l (h ++ x)) (stage_given l h ++ y) (length-stage_given l (h ++ x) ∙ omega (arith, length-append h x, length-append (stage_given l h) y, length-stage_given l h))
      (λ n inside. get_or-stage_given l (h ++ x) n l.zero (omega (arith, inside, length-stage_given l (h ++ x))) ∙ stage_item-at l held held' h x y stands whole whole_x same passes n (omega (arith, inside, length-stage_given l (h ++ x), length-append h x)) (cases_lt n (length h)))
