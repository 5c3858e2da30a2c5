use Rattle.layer_chain.proofs.NearAnswers.{answer-near, answer-foreign, answer-far, answer-packet}
use Rattle.layer_chain.proofs.decoder_laws.answer_law.Goals as goal

pub returns : goal.returns
returns c =
    let word = c.args.word.now in
    record {
      near = λ near. answer-near word near c.requires;
      foreign = λ near. answer-foreign word near c.requires;
      far = answer-far word;
      packet = answer-packet word c.requires;
    }
