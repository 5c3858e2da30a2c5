-- Stages whose paths are the lines of a bank.
use Rattle.std.proofs.Common.{◌≡◌, ℕ, ◌+◌, ◌<◌, List, [], ◌∷◌, ◌++◌, length, get_or, map, replicate, ◌∙◌, ap, arith}
use Rattle.std.specs.List.{range_with_len}
use Rattle.std.proofs.lemmas.List.{length-replicate}
use Rattle.std.proofs.lemmas.List.FromFn.{length-map-range_with_len, get_or-map-range_with_len, map-range_with_len_more}
use Rattle.delay_line.specs.Stages.{Layout, StandsFor, IsBankOf, new_bank}
use Rattle.delay_line.proofs.StageLaws.{StandsFor-nil}

module _ {X : Type 0} where
  get_or-new_bank : (l : Layout X) (p : ℕ) → p < l.paths → get_or (new_bank l) p [] ≡ replicate (l.path_delay p) l.zero
  unfolding new_bank
  get_or-new_bank l p path = get_or-map-range_with_len (λ q. replicate (l.path_delay q) l.zero) 0 l.paths p p [] path (omega arith)

  pub IsBankOf-new : (l : Layout X) → IsBankOf l (new_bank l)
  unfolding new_bank
  IsBankOf-new l = record {
    paths = length-map-range_with_len (λ q. replicate (l.path_delay q) l.zero) 0 l.paths;
    delays = λ p path. ap length (get_or-new_bank l p path) ∙ length-replicate (l.path_delay p) l.zero;
  }

  pub StandsFor-new : (l : Layout X) → StandsFor l (λ p. get_or (new_bank l) p []) []
  StandsFor-new l = StandsFor-nil l (λ p. get_or (new_bank l) p []) (λ p path. get_or-new_bank l p path)

  -- one line more
  pub new_lines-more : (delay : ℕ → ℕ) (zero : X) (n : ℕ) → map (λ p. replicate (delay p) zero) (range_with_len 0 (n + 1)) ≡ map (λ p. replicate (delay p) zero) (range_with_len 0 n) ++ replicate (delay n) zero ∷ []
  new_lines-more delay zero n = map-range_with_len_more (λ p. replicate (delay p) zero) 0 n n (omega arith)

  -- the lines of all paths
  pub new_bank-all : (l : Layout X) (bank : List (List X)) (n : ℕ) → bank ≡ map (λ p. replicate (l.path_delay p) l.zero) (range_with_len 0 n) → n ≡ l.paths → bank ≡ new_bank l
  unfolding new_bank
  new_bank-all l bank n lines all = lines ∙ ap (λ m. map (λ p. replicate (l.path_delay p) l.zero) (range_with_len 0 m)) all
