-- The text of a sample, and the answers of the command.
use Rattle.std.proofs.Common.{◌≡◌, ℕ, ◌<◌, List, [], ◌++◌, length, take, Option, refl, ap, sym, ◌∙◌, subst}
use Rattle.std.specs.Prelude.{◌==◌, if◌then◌else◌}
use Rattle.std.proofs.lemmas.Bool.{lt-ltb}
use Rattle.std.proofs.lemmas.List.{append-nil}
use Rattle.isdbt_base.specs.declared.kinds.Layer.TheVariants.{A, B}
use Rattle.isdbt_base.specs.Outcome.{product}
use Rattle.edge_io.specs.Known.{append_known}
use Rattle.edge_io.specs.FrameAnswers.{Passed, WriteFailed}
use Rattle.sample.specs.declared.counting.Tally.{Tally}
use Rattle.sample.specs.Lines.{tallies_text}
use Rattle.sample.specs.Tallies.{sample_tally}
use Rattle.sample.specs.Answers.{sample_text, sample_command, no_account, Finished}

-- the text of what is counted of the sample
pub text-is : (number : ℕ) (a b : Tally) (text : List ℕ) → a ≡ sample_tally number A → b ≡ sample_tally number B → text ≡ tallies_text a b → text ≡ sample_text number
unfolding sample_text
text-is number a b text is_a is_b is = is ∙ ap (λ (t : Tally). tallies_text t b) is_a ∙ ap (tallies_text (sample_tally number A)) is_b

-- ---- the frames

product-all : (text : List ℕ) → product (λ f. if f == 14 then text else []) 15 ≡ text
unfolding product
product-all text = append-nil text

product-before : (text : List ℕ) → product (λ f. if f == 14 then text else []) 14 ≡ []
unfolding product
product-before text = refl

passed : (number : ℕ) → Passed (sample_command number) 15
passed number f less = (refl, lt-ltb f 15 less)

-- ---- the answers

pub finished : (number : ℕ) (text : List ℕ) (before after : Option (List ℕ)) → text ≡ sample_text number → after ≡ append_known before text → Finished number 15 before after
finished number text before after is wrote = record {
  ended = record {
    outcome = record { before = passed number; at = refl; done = λ e. refl };
    written = wrote ∙ ap (append_known before) (is ∙ sym (product-all (sample_text number)));
  };
  count = refl;
}

pub write_failed : (number n : ℕ) (text : List ℕ) (before after : Option (List ℕ)) → text ≡ sample_text number → n < length text → after ≡ append_known before (take n text)
    → WriteFailed (sample_command number) no_account.took before after
write_failed number n text before after is short wrote = record {
  frame = 14;
  sent = n;
  passed = passed number;
  short = subst (λ (xs : List ℕ). n < length xs) is short;
  written = wrote ∙ ap (λ xs. append_known before (take n xs)) is ∙ ap (λ xs. append_known before (xs ++ take n (sample_text number))) (sym (product-before (sample_text number)));
  account = tt;
}
