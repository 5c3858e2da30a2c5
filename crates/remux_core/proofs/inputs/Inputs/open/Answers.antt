use Rattle.std.proofs.Common.{◌≡◌, ℕ, ◌*◌, ◌≤◌, ◌<◌, true, false, sym, ap, ◌∙◌, subst}
use Rattle.isdbt_base.specs.declared.kinds.Layer.{Layer}
use Rattle.remux_core.specs.Frames.{most_packets}
use Rattle.remux_core.specs.Reading.{input_of}
use Rattle.remux_core.proofs.Layers.{each}
use Rattle.remux_core.proofs.inputs.Inputs.open.Goals as goal

pub returns-clause-room : goal.returns-clause-room
returns-clause-room c = each _ (c.in_ok-a.ensures.room ∙ ap (λ n. 188 * n) c.most_packets.ensures.value) (c.in_ok-b.ensures.room ∙ ap (λ n. 188 * n) c.most_packets-2.ensures.value) (c.in_ok-c.ensures.room ∙ ap (λ n. 188 * n) c.most_packets-3.ensures.value)

pub returns-clause-small : goal.returns-clause-small
returns-clause-small c =
    each (λ (x : Layer). most_packets c.args.plan.now x ≤ 3276)
    (subst (λ (n : ℕ). n ≤ 3276) c.most_packets.ensures.value c.most_packets.ensures.most)
    (subst (λ (n : ℕ). n ≤ 3276) c.most_packets-2.ensures.value c.most_packets-2.ensures.most)
    (subst (λ (n : ℕ). n ≤ 3276) c.most_packets-3.ensures.value c.most_packets-3.ensures.most)

pub returns-clause-used : goal.returns-clause-used
returns-clause-used c =
    each (λ (x : Layer). 0 < most_packets c.args.plan.now x → (input_of (record { a = c.in_ok-a.a; b = c.in_ok-b.b; c = c.in_ok-c.c }) x).ended ≡ false)
    (λ some. c.in_ok-a.ensures.used (subst (λ (n : ℕ). 0 < n) (sym c.most_packets.ensures.value) some))
    (λ some. c.in_ok-b.ensures.used (subst (λ (n : ℕ). 0 < n) (sym c.most_packets-2.ensures.value) some))
    (λ some. c.in_ok-c.ensures.used (subst (λ (n : ℕ). 0 < n) (sym c.most_packets-3.ensures.value) some))

pub returns-clause-unused : goal.returns-clause-unused
returns-clause-unused c =
    each (λ (x : Layer). most_packets c.args.plan.now x ≡ 0 → (input_of (record { a = c.in_ok-a.a; b = c.in_ok-b.b; c = c.in_ok-c.c }) x).ended ≡ true)
    (λ none. c.in_ok-a.ensures.unused (c.most_packets.ensures.value ∙ none))
    (λ none. c.in_ok-b.ensures.unused (c.most_packets-2.ensures.value ∙ none))
    (λ none. c.in_ok-c.ensures.unused (c.most_packets-3.ensures.value ∙ none))
