use Rattle.std.proofs.Common.{length, arith, ap, ◌∙◌}
use Rattle.isdbt_base.specs.declared.kinds.Layer.TheVariants.{A, B}
use Rattle.sample.specs.declared.places.Share.{Share}
use Rattle.sample.specs.Inputs.{number_of}
use Rattle.sample.proofs.InputLaws.{length-input}
use Rattle.sample.proofs.FrameCounts.{packets-most, share-of, got, bounded-by, bounded-in}
use Rattle.sample.proofs.running.count_frame.Goals as goal

pub count_layer-requires-clause-few : goal.count_layer-requires-clause-few
count_layer-requires-clause-few c = (let is = share-of c.args.sending.plan.now A c.args.frame c.share_at.result c.requires.plan c.share_at.ensures.value in let same = ap (λ (s : Share). s.packets) is in let most = packets-most A c.args.frame in omega (arith, same, most))

pub count_layer-requires-clause-room : goal.count_layer-requires-clause-room
count_layer-requires-clause-room c =
    let is = share-of c.args.sending.plan.now A c.args.frame c.share_at.result c.requires.plan c.share_at.ensures.value in
    let same = ap (λ (s : Share). s.packets) is in
    let most = packets-most A c.args.frame in
    let len = c.deref_mut.ensures.len in
    let room = c.requires.room.packets in
    omega (arith, same, most, len, room)

pub count_layer-requires-clause-input : goal.count_layer-requires-clause-input
count_layer-requires-clause-input c = (let size = ap length c.a.ensures ∙ length-input (number_of c.args.sending.inputs.now) A in omega (arith, size))

pub count_layer-requires-clause-bounds : goal.count_layer-requires-clause-bounds
count_layer-requires-clause-bounds c = bounded-by (number_of c.args.sending.inputs.now) A c.args.frame c.args.counts.now.a c.a.result.now c.a.ensures c.requires.bounds.a

pub count_layer-requires-2-clause-few : goal.count_layer-requires-2-clause-few
count_layer-requires-2-clause-few c = (let is = share-of c.args.sending.plan.now B c.args.frame c.share_at-2.result c.requires.plan c.share_at-2.ensures.value in let same = ap (λ (s : Share). s.packets) is in let most = packets-most B c.args.frame in omega (arith, same, most))

pub count_layer-requires-2-clause-room : goal.count_layer-requires-2-clause-room
count_layer-requires-2-clause-room c =
    let is = share-of c.args.sending.plan.now B c.args.frame c.share_at-2.result c.requires.plan c.share_at-2.ensures.value in
    let same = ap (λ (s : Share). s.packets) is in
    let most = packets-most B c.args.frame in
    let len = c.deref_mut-2.ensures.len in
    let room = c.requires.room.packets in
    omega (arith, same, most, len, room)

pub count_layer-requires-2-clause-input : goal.count_layer-requires-2-clause-input
count_layer-requires-2-clause-input c = (let size = ap length c.b.ensures ∙ length-input (number_of c.args.sending.inputs.now) B in omega (arith, size))

pub count_layer-requires-2-clause-bounds : goal.count_layer-requires-2-clause-bounds
count_layer-requires-2-clause-bounds c = bounded-by (number_of c.args.sending.inputs.now) B c.args.frame c.args.counts.now.b c.b.result.now c.b.ensures c.requires.bounds.b

pub returns-clause-bounds : goal.returns-clause-bounds
returns-clause-bounds c =
    let number = number_of c.args.sending.inputs.now in
    record {
      a = bounded-in number A _ c.count_layer.new.count c.a.result.now c.a.ensures c.count_layer.ensures.bounds;
      b = bounded-in number B _ c.count_layer-2.new.count c.b.result.now c.b.ensures c.count_layer-2.ensures.bounds;
    }

pub returns-clause-counted : goal.returns-clause-counted
returns-clause-counted c = λ is counted.
    let number = number_of c.args.sending.inputs.now in
    let p = c.args.sending.plan.now in
    let f = c.args.frame in
    let share_a = share-of p A f c.share_at.result c.requires.plan c.share_at.ensures.value in
    let share_b = share-of p B f c.share_at-2.result c.requires.plan c.share_at-2.ensures.value in
    record {
      a = c.count_layer.ensures.counted number c.a.ensures share_a c.requires.frame (got number f A c.deref.result.now c.share_at.result share_a (c.deref.ensures.value ∙ is)) counted.a;
      b = c.count_layer-2.ensures.counted number c.b.ensures share_b c.requires.frame (got number f B c.deref-2.result.now c.share_at-2.result share_b (c.deref-2.ensures.value ∙ is)) counted.b;
    }
