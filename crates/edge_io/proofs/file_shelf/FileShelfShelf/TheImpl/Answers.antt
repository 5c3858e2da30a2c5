-- What is said of content holds of content that is not told.
use Rattle.std.proofs.Common.{Result, Ok, Err, OnErr, IfOk, refl}
use Rattle.edge_io.proofs.file_shelf.FileShelfShelf.TheImpl.Goals as goal

on_ok : {T E : Type 0} (r : Result T E) {P : T → Type 0} → ((x : T) → P x) → IfOk r P
on_ok (Ok x) holds = holds x
on_ok (Err _) holds = tt

on_err : {T E : Type 0} (r : Result T E) {P : Type 0} → P → OnErr r P
on_err (Ok _) holds = tt
on_err (Err _) holds = holds

pub open-tells : goal.open-tells
open-tells g c = record {
  names = refl;
  other_left = λ _ _. refl;
  other_open = c.ensures.other_open;
  opened = c.ensures.opened;
  content = on_ok c.result (λ _. refl);
  closed = c.ensures.closed;
  kept = on_err c.result refl;
  cause = c.ensures.cause;
}

pub read-tells : goal.read-tells
read-tells g c = record {
  names = refl;
  other_left = λ _ _. refl;
  still_open = c.ensures.still_open;
  bound = c.ensures.bound;
  taken = on_ok c.result (λ _. refl);
  copied = on_ok c.result (λ _. tt);
  within = on_ok c.result (λ _. tt);
  end = on_ok c.result (λ _ _. tt);
  kept = on_err c.result refl;
  cause = c.ensures.cause;
}
