use Rattle.std.proofs.Common.{◌≡◌, ℕ, List, [], ◌∷◌, ◌++◌, ap, ◌∙◌, append_assoc, refl}
use Rattle.coder_core.specs.Symbols.{cells_bytes, layers_symbol}
use Rattle.coder_core.proofs.symbols.put_symbol.Goals as goal

regroup : (p : List ℕ) (t : ℕ) (x y z : List ℕ) → (((p ++ (t ∷ [])) ++ x) ++ y) ++ z ≡ p ++ (t ∷ (x ++ (y ++ z)))
regroup p t x y z = simp append_assoc refl

pub returns-clause-bytes : goal.returns-clause-bytes
unfolding layers_symbol
returns-clause-bytes c =
    c.put_cells.ensures.bytes
    ∙ ap (λ xs. xs ++ cells_bytes c.args.c.now) (c.put_cells-at-2.ensures.bytes
    ∙ ap (λ xs. xs ++ cells_bytes c.args.b.now) (c.put_cells-at.ensures.bytes ∙ ap (λ xs. xs ++ cells_bytes c.args.a.now) c.put_bit-at.ensures.bytes))
    ∙ regroup _ _ (cells_bytes c.args.a.now) (cells_bytes c.args.b.now) (cells_bytes c.args.c.now)
