use Rattle.std.proofs.Common.{◌≡◌, ℕ, ◌≤◌, min, ap, Some, Ok, Err, Result, IfOk, arith}
use Rattle.std.proofs.lemmas.Result.{on_err_weaker}
use Rattle.edge_io.proofs.memory_shelf.MemoryShelfShelf.TheImpl.Goals as goal

-- the least of three counts is at most the second and the third
at_most_room : {E : Type 0} (r : Result ℕ E) (most room left : ℕ) → IfOk r (λ n. n ≡ min most (min room left)) → IfOk r (λ n. n ≤ room)
at_most_room (Ok n) most room left is = omega arith
at_most_room (Err _) most room left is = tt

at_most_left : {E : Type 0} (r : Result ℕ E) (most room left : ℕ) → IfOk r (λ n. n ≡ min most (min room left)) → IfOk r (λ n. n ≤ left)
at_most_left (Ok n) most room left is = omega arith
at_most_left (Err _) most room left is = tt

some_on_ok : {E X : Type 0} (r : Result ℕ E) (x : X) (f : ℕ → X) → IfOk r (λ n. x ≡ f n) → IfOk r (λ n. Some x ≡ Some (f n))
some_on_ok (Ok n) x f is = ap Some is
some_on_ok (Err _) x f is = tt

pub open-tells : goal.open-tells
open-tells c = record {
  names = c.ensures.names;
  other_left = λ other ne. ap Some (c.ensures.other_left other ne);
  other_open = c.ensures.other_open;
  opened = c.ensures.opened;
  content = c.ensures.content;
  closed = c.ensures.closed;
  kept = on_err_weaker _ (ap Some) c.ensures.kept;
  cause = c.ensures.cause;
}

pub read-tells : goal.read-tells
read-tells c = record {
  names = c.ensures.names;
  other_left = λ other ne. ap Some (c.ensures.other_left other ne);
  still_open = c.ensures.still_open;
  bound = at_most_room c.result _ _ _ c.ensures.count;
  taken = some_on_ok c.result _ _ c.ensures.rest;
  copied = c.ensures.copied;
  within = at_most_left c.result _ _ _ c.ensures.count;
  end = c.ensures.end;
  kept = on_err_weaker _ (ap Some) c.ensures.kept;
  cause = c.ensures.cause;
}
