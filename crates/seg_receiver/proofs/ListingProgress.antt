-- How far the listing of a stream of cells has come.
use Rattle.std.proofs.Common.{◌≡◌, ℕ, suc, ◌+◌, ◌<◌, Bool, List, length, take, refl, ap, sym, ◌∙◌, arith}
use Rattle.std.specs.Prelude.{Some, None, Ok}
use Rattle.std.specs.declared.option.Option.{Option}
use Rattle.isdbt_base.specs.declared.kinds.Mode.{Mode}
use Rattle.isdbt_base.specs.declared.kinds.Guard.{Guard}
use Rattle.isdbt_base.specs.declared.stream.Reading.{Reading}
use Rattle.edge_io.specs.Known.{append_known}
use Rattle.edge_io.specs.FrameAnswers.{WriteFailed, Took}
use Rattle.tmcc_word.specs.Fields.{TmccFields}
use Rattle.tmcc_word.specs.Reading.{read}
use Rattle.seg_receiver.specs.declared.aim.Aim.TheVariants.{Lines}
use Rattle.coder_core.specs.SentCells.{frame_size}
use Rattle.seg_receiver.specs.CellStream.{stream_word, View, view_of}
use Rattle.seg_receiver.specs.Epochs.{epoch_head, due_behind}
use Rattle.seg_receiver.specs.FrameLines.{restored, word_line, frame_line}
use Rattle.seg_receiver.specs.ReceiveAnswers.{given_frame, receive_command}
use Rattle.seg_receiver.specs.EpochAnswers.{Progress, DueIn, Taken}
use Rattle.seg_receiver.proofs.EpochProgress.{head-behind, wrote_all, wrote_some}
use Rattle.seg_receiver.proofs.ReceiveProgress.{begin, next, write-failed}
use Rattle.seg_receiver.proofs.ViewLaws.{IsLaid, laid, fix-of, came-part}

-- the first f frames were listed, the last one's word says this, and the head of the next must repeat this
pub record Listed (v : View) (stream : List ℕ) (limit f : ℕ) (due : Option (Mode × Guard)) (last : Option (TmccFields × Bool)) (left before now : Option (List ℕ)) : Type 0 where
  pub so_far : Progress v Lines stream limit f last left before now
  pub due_is : DueIn v f due

-- the line of a frame whose word is read
line-is : (v : View) (f : ℕ) (mode : Mode) (changed : Option ℕ) (word : TmccFields × Bool) → v.mode f ≡ mode → changed ≡ restored v.fix (v.came f) → read (v.word f) ≡ Ok word → word_line mode f changed (Ok word) ≡ given_frame v Lines f
unfolding frame_line
line-is v f mode changed word same count is = ap (λ m. word_line m f changed (Ok word)) (sym same) ∙ ap (λ n. word_line (v.mode f) f n (Ok word)) count ∙ ap (word_line (v.mode f) f (restored v.fix (v.came f))) (sym is)

-- the bits that are restored of the word of the frame that was taken
pub restored-is : (how : Reading) (stream : List ℕ) (limit f : ℕ) (said : Mode × Guard) (last : Option (TmccFields × Bool)) (word : TmccFields × Bool) (frame : List ℕ) (left : Option (List ℕ)) → Taken (view_of how stream) Lines stream limit f said last word frame left
    → restored how.fix (stream_word said.0 (take (frame_size said.0) frame) 0) ≡ restored (view_of how stream).fix ((view_of how stream).came f)
restored-is how stream limit f said last word frame left taken =
    let v = view_of how stream in
    let part = take (frame_size said.0) frame in
    ap (λ b. restored b (stream_word said.0 part 0)) (sym (fix-of how.fix how.form stream))
    ∙ ap (restored v.fix) (came-part v stream f said.0 part (laid how.fix how.form stream) taken.mode taken.frame_is)

module _ (v : View) (stream : List ℕ) (limit : ℕ) where
  -- before the first frame
  pub listed-none : (left before : Option (List ℕ)) → IsLaid v stream → left ≡ Some stream → Listed v stream limit 0 None None left before before
  unfolding epoch_head
  listed-none left before laid told = record { so_far = begin v stream laid Lines limit left before told; due_is = refl }

  -- a frame more
  pub listed-more : (f : ℕ) (said : Mode × Guard) (due : Option (Mode × Guard)) (last : Option (TmccFields × Bool)) (word : TmccFields × Bool) (frame : List ℕ) (changed : Option ℕ) (known left before mid after : Option (List ℕ)) → Listed v stream limit f due last known before mid
      → Taken v Lines stream limit f said last word frame left → changed ≡ restored v.fix (v.came f) → after ≡ append_known mid (word_line said.0 f changed (Ok word)) → Listed v stream limit (f + 1) (due_behind said word) (Some word) left before after
  listed-more f said due last word frame changed known left before mid after so_far taken count wrote = record {
    so_far = next v Lines stream limit f said last word frame known left before mid after so_far.so_far taken (wrote_all _ _ mid after (line-is v f said.0 changed word taken.mode count taken.word_is) wrote);
    due_is = ap (epoch_head v.word v.mode v.guard) (let e : f + 1 ≡ suc f = omega arith in e) ∙ head-behind v f said word taken.mode taken.guard taken.word_is;
  }

  -- a line was written in part
  pub line-failed : (f n : ℕ) (said : Mode × Guard) (due : Option (Mode × Guard)) (last : Option (TmccFields × Bool)) (word : TmccFields × Bool) (frame : List ℕ) (changed : Option ℕ) (known left before mid after : Option (List ℕ)) → Listed v stream limit f due last known before mid
      → Taken v Lines stream limit f said last word frame left → changed ≡ restored v.fix (v.came f) → n < length (word_line said.0 f changed (Ok word)) → after ≡ append_known mid (take n (word_line said.0 f changed (Ok word)))
      → WriteFailed (receive_command v Lines stream limit).frames (Took (receive_command v Lines stream limit) left) before after
  line-failed f n said due last word frame changed known left before mid after so_far taken count short wrote =
      let part = wrote_some _ (given_frame v Lines f) n mid after (line-is v f said.0 changed word taken.mode count taken.word_is) short wrote in
      write-failed v Lines stream limit f n said last word frame known left before mid after so_far.so_far taken part.0 part.1
