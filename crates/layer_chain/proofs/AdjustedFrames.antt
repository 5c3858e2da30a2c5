-- One piece more of a stream through a line and the stage behind it.
use Rattle.std.proofs.Common.{ℕ, ◌+◌, ◌*◌, ◌%◌, List, length, ap, subst, ◌∙◌, arith}
use Rattle.delay_line.specs.Lines.{item_of}
use Rattle.delay_line.specs.Stages.{Layout}
use Rattle.delay_line.specs.Adjusted.{AdjustedStandsFor, AdjustedFeeds}
use Rattle.delay_line.proofs.LineLaws.{delayed-agree}
use Rattle.delay_line.proofs.AdjustedLaws.{AdjustedStandsFor-append, get_or-adjusted_output}
use Rattle.layer_chain.specs.Streams.{first_of, AreItems, adjusted_item}
use Rattle.layer_chain.proofs.Streams.{length-first_of, get_or-first_of, first_of-add}

module _ {X : Type 0} where
  -- they stand for so many items more, and gave those that follow
  pub record AdjustedPiece (l : Layout X) (a : ℕ) (s : ℕ → X) (n m : ℕ) (line : List X) (held : ℕ → List X) (output : List X) : Type 0 where
    pub stands : AdjustedStandsFor l a line held (first_of s (n + m))
    pub given : AreItems l.zero (adjusted_item l a s) n m output

  pub adjusted_piece : (l : Layout X) (a : ℕ) (s : ℕ → X) (n m : ℕ) (x middle output line line' : List X) (held held' : ℕ → List X)
      → AdjustedStandsFor l a line held (first_of s n) → AdjustedFeeds l line held x middle output line' held' → AreItems l.zero s n m x → AdjustedPiece l a s n m line' held' output
  adjusted_piece l a s n m x middle output line line' held held' stands feeds items =
      let more = first_of-add l.zero s n m x items in
      record {
        stands = subst (λ h. AdjustedStandsFor l a line' held' h) more (AdjustedStandsFor-append l a (first_of s n) x middle output line line' held held' stands feeds);
        given = record {
          size = feeds.output_length ∙ items.size;
          each = λ i h.
              get_or-adjusted_output l a (first_of s n) x middle output line line' held held' stands feeds i (omega (arith, items.size, h))
              ∙ ap (λ xs. adjusted_item l a (item_of l.zero xs) (length (first_of s n) + i)) more
              ∙ ap (λ k. adjusted_item l a (item_of l.zero (first_of s (n + m))) (k + i)) (length-first_of s n)
              ∙ delayed-agree (a + l.paths * l.path_delay ((n + i) % l.paths)) l.zero (item_of l.zero (first_of s (n + m))) s (n + i) (λ k below. get_or-first_of s (n + m) k l.zero (omega (arith, below, h)));
        };
      }
