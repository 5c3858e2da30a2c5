-- A stage behind a line.
use Rattle.std.proofs.Common.{◌≡◌, ℕ, ◌+◌, ◌*◌, ◌-◌, ◌%◌, ◌<◌, List, [], ◌++◌, length, get_or, replicate, sym, ◌∙◌, arith, ap, length-append}
use Rattle.std.proofs.lemmas.List.{nil_from_length}
use Rattle.std.proofs.Math.Nat.{zero-mod}
use Rattle.delay_line.specs.Lines.{given_for, item_of, delayed}
use Rattle.delay_line.specs.Stages.{Layout, StandsFor, stage_item}
use Rattle.delay_line.specs.Adjusted.{AdjustedStandsFor, AdjustedFeeds}
use Rattle.delay_line.proofs.LineLaws.{held_after-nil, length-given_for, held_after-append, given_for-append, get_or-given_for, delayed-delayed}
use Rattle.delay_line.proofs.StageLaws.{StandsFor-append, get_or-stage_output}
use Rattle.delay_line.proofs.Turns.{turns-together}

module _ {X : Type 0} where
  given-none : (a : ℕ) (zero : X) → given_for a zero [] ≡ []
  given-none a zero = nil_from_length (given_for a zero []) (length-given_for a zero [])

  -- a new line and a new stage
  pub AdjustedStandsFor-nil : (l : Layout X) (a : ℕ) (held : ℕ → List X) → StandsFor l held [] → AdjustedStandsFor l a (replicate a l.zero) held []
  AdjustedStandsFor-nil l a held stands = record {
    turns = zero-mod l.paths;
    line_stands = sym (held_after-nil a l.zero);
    stage_stands = rw (given-none a l.zero) stands;
  }

  given-turns : (l : Layout X) (a : ℕ) (h : List X) → length h % l.paths ≡ 0 → length (given_for a l.zero h) % l.paths ≡ 0
  given-turns l a h whole = ap (λ n. n % l.paths) (length-given_for a l.zero h) ∙ whole

  given-more : (l : Layout X) (a : ℕ) (h x middle output line line' : List X) (held held' : ℕ → List X) → AdjustedStandsFor l a line held h → AdjustedFeeds l line held x middle output line' held' → given_for a l.zero (h ++ x) ≡ given_for a l.zero h ++ middle
  given-more l a h x middle output line line' held held' stands feeds =
      given_for-append a l.zero h x middle line line' stands.line_stands feeds.middle_length feeds.line_feeds

  -- after one more feed
  pub AdjustedStandsFor-append : (l : Layout X) (a : ℕ) (h x middle output line line' : List X) (held held' : ℕ → List X) → AdjustedStandsFor l a line held h → AdjustedFeeds l line held x middle output line' held' → AdjustedStandsFor l a line' held' (h ++ x)
  AdjustedStandsFor-append l a h x middle output line line' held held' stands feeds = record {
    turns = ap (λ n. n % l.paths) (length-append h x) ∙ turns-together l.paths (length h) (length x) stands.turns feeds.turns;
    line_stands = held_after-append a l.zero h x middle line line' stands.line_stands feeds.middle_length feeds.line_feeds;
    stage_stands = rw (given-more l a h x middle output line line' held held' stands feeds) (StandsFor-append l held held' (given_for a l.zero h) middle output stands.stage_stands (given-turns l a h stands.turns) (feeds.output_length ∙ sym feeds.middle_length) feeds.stage_feeds);
  }

  -- the line's stream through the stage
  stage_item-given_for : (l : Layout X) (a : ℕ) (h : List X) (q : ℕ) → q < length h → stage_item l (item_of l.zero (given_for a l.zero h)) q ≡ delayed (a + l.paths * l.path_delay (q % l.paths)) l.zero (item_of l.zero h) q
  stage_item-given_for l a h q inside =
      let late = l.paths * l.path_delay (q % l.paths) in
      delayed-delayed a late l.zero (item_of l.zero h) (item_of l.zero (given_for a l.zero h)) q (λ behind. get_or-given_for a l.zero h (q - late) (omega arith))

  -- item n of one more feed
  pub get_or-adjusted_output : (l : Layout X) (a : ℕ) (h x middle output line line' : List X) (held held' : ℕ → List X) → AdjustedStandsFor l a line held h → AdjustedFeeds l line held x middle output line' held' → (n : ℕ) → n < length x → get_or output n l.zero ≡ delayed (a + l.paths * l.path_delay ((length h + n) % l.paths)) l.zero (item_of l.zero (h ++ x)) (length h + n)
  get_or-adjusted_output l a h x middle output line line' held held' stands feeds n inside =
      get_or-stage_output l held held' (given_for a l.zero h) middle output stands.stage_stands (given-turns l a h stands.turns) (ap (λ n. n % l.paths) feeds.middle_length ∙ feeds.turns) (feeds.output_length ∙ sym feeds.middle_length) feeds.stage_feeds n (omega (arith, inside, feeds.middle_length))
      ∙ ap (λ z. stage_item l (item_of l.zero z) (length (given_for a l.zero h) + n)) (sym (given-more l a h x middle output line line' held held' stands feeds))
      ∙ ap (λ m. stage_item l (item_of l.zero (given_for a l.zero (h ++ x))) (m + n)) (length-given_for a l.zero h)
      ∙ stage_item-given_for l a (h ++ x) (length h + n) (omega (arith, inside, length-append h x))
