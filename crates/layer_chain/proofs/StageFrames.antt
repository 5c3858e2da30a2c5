-- One piece more of a stream through a stage.
use Rattle.std.proofs.Common.{◌≡◌, ℕ, ◌+◌, ◌*◌, ◌%◌, List, [], length, sym, ap, subst, ◌∙◌, arith}
use Rattle.delay_line.specs.Lines.{item_of}
use Rattle.delay_line.specs.Stages.{Layout, PassesOn, StandsFor, stage_item}
use Rattle.delay_line.proofs.LineLaws.{delayed-agree}
use Rattle.delay_line.proofs.StageLaws.{StandsFor-append, get_or-stage_output}
use Rattle.layer_chain.specs.Streams.{first_of, AreItems}
use Rattle.layer_chain.proofs.Streams.{length-first_of, get_or-first_of, first_of-none, first_of-add}

module _ {X : Type 0} where
  -- it stands for so many items more, and gave those that follow
  pub record StagePiece (l : Layout X) (s : ℕ → X) (n m : ℕ) (held : ℕ → List X) (output : List X) : Type 0 where
    pub stands : StandsFor l held (first_of s (n + m))
    pub given : AreItems l.zero (stage_item l s) n m output

  pub stage_piece : (l : Layout X) (s : ℕ → X) (n m : ℕ) (x output : List X) (held held' : ℕ → List X)
      → StandsFor l held (first_of s n) → n % l.paths ≡ 0 → m % l.paths ≡ 0 → length output ≡ m → PassesOn l held x output held' → AreItems l.zero s n m x → StagePiece l s n m held' output
  stage_piece l s n m x output held held' stands before turns size passes items =
      let h = first_of s n in
      let more = first_of-add l.zero s n m x items in
      let whole : length h % l.paths ≡ 0 = ap (λ k. k % l.paths) (length-first_of s n) ∙ before in
      let whole_x : length x % l.paths ≡ 0 = ap (λ k. k % l.paths) items.size ∙ turns in
      let same : length output ≡ length x = size ∙ sym items.size in
      record {
        stands = subst (λ k. StandsFor l held' k) more (StandsFor-append l held held' h x output stands whole same passes);
        given = record {
          size = size;
          each = λ i k.
              get_or-stage_output l held held' h x output stands whole whole_x same passes i (omega (arith, items.size, k))
              ∙ ap (λ xs. stage_item l (item_of l.zero xs) (length h + i)) more
              ∙ ap (λ j. stage_item l (item_of l.zero (first_of s (n + m))) (j + i)) (length-first_of s n)
              ∙ delayed-agree (l.paths * l.path_delay ((n + i) % l.paths)) l.zero (item_of l.zero (first_of s (n + m))) s (n + i) (λ j below. get_or-first_of s (n + m) j l.zero (omega (arith, below, k)));
        };
      }

  -- a new stage stands for nothing of any stream
  pub new_stage : (l : Layout X) (s : ℕ → X) (n : ℕ) (held : ℕ → List X) → StandsFor l held [] → n ≡ 0 → StandsFor l held (first_of s n)
  new_stage l s n held stands none = subst (λ h. StandsFor l held h) (sym (first_of-none s n none)) stands
