use Rattle.std.proofs.Common.{◌≡◌, ℕ, ◌≤◌, length, ap, refl, Some, Ok, Err, Result, IfOk, OnErr, arith}
use Rattle.edge_io.specs.QuietShelf.{rest_of}
use Rattle.edge_io.proofs.quiet_shelf.QuietShelfShelf.TheImpl.Goals as goal

-- what holds of the value holds on an answer that is that value
if_ok : {T E : Type 0} (P : T → Type 0) (r : Result T E) (x : T) → r ≡ Ok x → P x → IfOk r P
if_ok P r x is holds = rw is holds

on_err : {T E : Type 0} (P : Type 0) (r : Result T E) (x : T) → r ≡ Ok x → OnErr r P
on_err P r x is = rw is tt

some_on_ok : {E X : Type 0} (r : Result ℕ E) (x : X) (f : ℕ → X) → IfOk r (λ n. x ≡ f n) → IfOk r (λ n. Some x ≡ Some (f n))
some_on_ok (Ok n) x f is = ap Some is
some_on_ok (Err _) x f is = tt

pub open-tells : goal.open-tells
open-tells c = record {
  names = ap (λ f name. Some (f name)) c.ensures.names;
  other_left = λ other ne. ap Some (c.ensures.other_left other ne);
  other_open = c.ensures.other_open;
  opened = rw c.ensures.succeeds c.ensures.opened;
  content = rw c.ensures.succeeds (ap Some c.ensures.content);
  closed = rw c.ensures.succeeds tt;
  kept = rw c.ensures.succeeds tt;
  cause = record { later = λ any. omega arith; failed = rw c.ensures.succeeds tt; kept = rw c.ensures.succeeds refl };
}

pub read-tells : goal.read-tells
read-tells c = record {
  names = ap (λ f name. Some (f name)) c.ensures.names;
  other_left = λ other ne. ap Some (c.ensures.other_left other ne);
  still_open = c.ensures.still_open;
  bound = if_ok (λ n. n ≤ length c.new.buf.now) c.result _ c.ensures.count (omega arith);
  taken = some_on_ok c.result _ _ c.ensures.rest;
  copied = c.ensures.copied;
  within = if_ok (λ n. n ≤ length (rest_of c.args.self.now c.args.seat)) c.result _ c.ensures.count (omega arith);
  end = c.ensures.end;
  kept = on_err _ c.result _ c.ensures.count;
  cause = record { later = λ any. omega arith; failed = rw c.ensures.count tt; kept = rw c.ensures.count refl };
}
