use Rattle.std.specs.Prelude.{codes}
use Rattle.std.proofs.lemmas.Result.{err_from_is_err_and}
use Rattle.isdbt_cli.proofs.ShowSpelling.{no_second, other_second, behind_second}
use Rattle.isdbt_cli.proofs.grammar.show.Goals as goal

pub returns-in_err-word : goal.returns-in_err-word
returns-in_err-word c =
    let p = err_from_is_err_and c.from_residual.result c.from_residual.ensures.1 in
    rw (p.1, p.2) (no_second c.args.words.now c.in_err-word.field-0.0 c.in_err-word.ensures.err)

pub returns-in-bts : goal.returns-in-bts
returns-in-bts c = behind_second (codes "bts") c.args.words.now c.word.new.self c.in_ok-word.field-0.now c.show_bts.result c.in_ok-word.ensures.ok c.in-bts.is c.show_bts.ensures

pub returns-in-cells : goal.returns-in-cells
returns-in-cells c = behind_second (codes "cells") c.args.words.now c.word.new.self c.in_ok-word.field-0.now c.show_cells.result c.in_ok-word.ensures.ok c.in-cells.is c.show_cells.ensures

pub returns-in_default : goal.returns-in_default
returns-in_default c = other_second c.args.words.now c.word.new.self c.place-place.result c.in_ok-word.field-0.now c.place-place.ensures c.in_ok-word.ensures.ok c.in_default.not-bts c.in_default.not-cells
