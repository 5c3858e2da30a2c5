-- Two partners, one behind the other.
use Rattle.std.proofs.Common.{◌≡◌, ℕ, ◌+◌, ◌-◌, ◌*◌, ◌%◌, ◌<◌, List, ◌++◌, length, get_or, sym, ◌∙◌, ap, arith, length-append}
use Rattle.std.proofs.Math.Nat.{mul-add, add-mul-mod_self_left}
use Rattle.std.proofs.lemmas.Nat.{mod_below}
use Rattle.delay_line.specs.Lines.{item_of, delayed}
use Rattle.delay_line.specs.Stages.{Layout, PassesOn, stage_given, ArePartners, PairStandsFor}
use Rattle.delay_line.proofs.LineLaws.{delayed-delayed}
use Rattle.delay_line.proofs.StageLaws.{StandsFor-append, get_or-stage_output, length-stage_given, get_or-stage_given, stage_given-append}
use Rattle.delay_line.proofs.Turns.{turns-together, one-turn}

module _ {X : Type 0} where
  -- the second gives the item that went in DELAY turns before
  pair-delay : (l m : Layout X) (h t mid : List X) (n : ℕ) → ArePartners l m → stage_given l (h ++ t) ≡ stage_given l h ++ mid → n < length (h ++ t) → 0 < l.paths → delayed (l.paths * m.path_delay (n % l.paths)) l.zero (item_of l.zero (stage_given l h ++ mid)) n ≡ delayed (l.paths * l.delay) l.zero (item_of l.zero (h ++ t)) n
  pair-delay l m h t mid n partners given inside some =
      let w = l.paths in
      let p = n % w in
      let late = w * m.path_delay p in
      delayed-delayed (w * l.path_delay p) late l.zero (item_of l.zero (h ++ t)) (item_of l.zero (stage_given l h ++ mid)) n
      (λ behind.
      let k = n - late in
      let path : k % w ≡ p = sym (add-mul-mod_self_left k w (m.path_delay p)) ∙ ap (λ i. i % w) (omega arith) in
      ap (λ z. get_or z k l.zero) (sym given)
      ∙ get_or-stage_given l (h ++ t) k l.zero (omega arith)
      ∙ ap (λ q. delayed (w * l.path_delay q) l.zero (item_of l.zero (h ++ t)) k) path)
      ∙ ap (λ d. delayed d l.zero (item_of l.zero (h ++ t)) n) (sym (mul-add w (l.path_delay p) (m.path_delay p)) ∙ ap (λ d. w * d) (partners.sums p (mod_below n w some)))

  pub pair-middle : (l m : Layout X) (held_l held_l' held_m : ℕ → List X) (h t mid : List X) → length t ≡ l.paths → length mid ≡ length t → PassesOn l held_l t mid held_l' → PairStandsFor l held_l m held_m h → stage_given l (h ++ t) ≡ stage_given l h ++ mid
  pair-middle l m held_l held_l' held_m h t mid turn same passes stands =
      stage_given-append l held_l held_l' h t mid stands.first stands.turns (one-turn l.paths (length t) turn) same passes

  -- what the first has given is whole turns of the second
  given-turns : (l m : Layout X) (h : List X) → ArePartners l m → length h % l.paths ≡ 0 → length (stage_given l h) % m.paths ≡ 0
  given-turns l m h partners whole = rw (partners.paths, length-stage_given l h) whole

  pair-next : (l m : Layout X) (held_l held_l' held_m held_m' : ℕ → List X) (h t mid o : List X) → ArePartners l m → length t ≡ l.paths → length mid ≡ length t → length o ≡ length mid → PassesOn l held_l t mid held_l' → PassesOn m held_m mid o held_m' → PairStandsFor l held_l m held_m h → PairStandsFor l held_l' m held_m' (h ++ t)
  pair-next l m held_l held_l' held_m held_m' h t mid o partners turn same_mid same_o passes_l passes_m stands = record {
    turns = rw (length-append h t) (turns-together l.paths (length h) (length t) stands.turns (one-turn l.paths (length t) turn));
    first = StandsFor-append l held_l held_l' h t mid stands.first stands.turns same_mid passes_l;
    second = rw (pair-middle l m held_l held_l' held_m h t mid turn same_mid passes_l stands) (StandsFor-append m held_m held_m' (stage_given l h) mid o stands.second (given-turns l m h partners stands.turns) same_o passes_m);
  }

  pub pair-stands : (l l' m m' : Layout X) (held_l held_l' held_m held_m' : ℕ → List X) (h t mid o : List X) → ArePartners l m → l' ≡ l → m' ≡ m → length t ≡ l.paths → length mid ≡ length t → length o ≡ length mid → PassesOn l held_l t mid held_l' → PassesOn m held_m mid o held_m' → PairStandsFor l held_l m held_m h → PairStandsFor l' held_l' m' held_m' (h ++ t)
  pair-stands l l' m m' held_l held_l' held_m held_m' h t mid o partners l_is m_is turn same_mid same_o passes_l passes_m stands =
      rw (l_is, m_is) (pair-next l m held_l held_l' held_m held_m' h t mid o partners turn same_mid same_o passes_l passes_m stands)

  pub pair-late : (l m : Layout X) (held_l held_l' held_m held_m' : ℕ → List X) (h t mid o : List X) → ArePartners l m → length t ≡ l.paths → length mid ≡ length t → length o ≡ length mid → PassesOn l held_l t mid held_l' → PassesOn m held_m mid o held_m' → PairStandsFor l held_l m held_m h → (p : ℕ) → p < l.paths → get_or o p l.zero ≡ delayed (l.paths * l.delay) l.zero (item_of l.zero (h ++ t)) (length h + p)
  pair-late l m held_l held_l' held_m held_m' h t mid o partners turn same_mid same_o passes_l passes_m stands p path =
      let g = stage_given l h in
      let late = λ (w : ℕ) (zero : X) (n : ℕ). delayed (w * m.path_delay (n % w)) zero (item_of zero (g ++ mid)) n in
      ap (get_or o p) (sym partners.zero)
      ∙ get_or-stage_output m held_m held_m' g mid o stands.second (given-turns l m h partners stands.turns) (one-turn m.paths (length mid) (same_mid ∙ turn ∙ sym partners.paths)) same_o passes_m p (omega arith)
      ∙ ap (λ w. late w m.zero (length g + p)) partners.paths
      ∙ ap (λ z. late l.paths z (length g + p)) partners.zero
      ∙ ap (λ n. late l.paths l.zero (n + p)) (length-stage_given l h)
      ∙ pair-delay l m h t mid (length h + p) partners (pair-middle l m held_l held_l' held_m h t mid turn same_mid passes_l stands) (omega (arith, length-append h t)) (omega arith)
