-- The status of an outcome, and the answers of the cores as answers of the program.
use Rattle.std.specs.Prelude.{ℕ}
use Rattle.isdbt_cli.specs.declared.fault.Outcome.{Outcome}
use Rattle.isdbt_cli.specs.declared.fault.Outcome.TheVariants.{Done, Fault}
use Rattle.isdbt_cli.specs.declared.fault.RunFault.{RunFault}
use Rattle.isdbt_cli.specs.declared.fault.RunFault.TheVariants as run
use Rattle.coder_core.specs.declared.fault.CodeFault.{CodeFault}
use Rattle.coder_core.specs.declared.fault.CodeFault.TheVariants as code
use Rattle.seg_receiver.specs.declared.fault.ReceiveFault.{ReceiveFault}
use Rattle.seg_receiver.specs.declared.fault.ReceiveFault.TheVariants as receive
use Rattle.sample.specs.declared.fault.SampleFault.{SampleFault}
use Rattle.sample.specs.declared.fault.SampleFault.TheVariants as sample
use Rattle.remux_core.specs.declared.fault.RemuxFault.{RemuxFault}
use Rattle.remux_core.specs.declared.fault.RemuxFault.TheVariants.{BadSync, Truncated, ReadFault, WriteFault, TooLong, NoMemory}

abbrev pub number_of : RunFault → ℕ
number_of (run.Usage word) = 1
number_of (run.BadSync seat packet) = 2
number_of (run.Truncated seat over) = 3
number_of (run.HeadMisplaced frame slot) = 4
number_of run.NoHead = 5
number_of (run.WrongCount frame layer found) = 6
number_of (run.BadTmcc frame reason) = 7
number_of (run.Unannounced frame) = 8
number_of (run.NotPartial frame) = 9
number_of (run.OpenFault seat) = 10
number_of (run.ReadFault seat) = 11
number_of run.WriteFault = 12
number_of run.TooLong = 13
number_of run.NoMemory = 14
number_of (run.BadHead frame byte) = 15

abbrev pub status_of : Outcome → ℕ
status_of (Done frames) = 0
status_of (Fault fault) = number_of fault

abbrev pub run_fault_of : RemuxFault → RunFault
run_fault_of (BadSync seat packet) = run.BadSync seat packet
run_fault_of (Truncated seat over) = run.Truncated seat over
run_fault_of (ReadFault seat) = run.ReadFault seat
run_fault_of WriteFault = run.WriteFault
run_fault_of TooLong = run.TooLong
run_fault_of NoMemory = run.NoMemory

abbrev pub run_fault_of_code : CodeFault → RunFault
run_fault_of_code (code.BadSync seat packet) = run.BadSync seat packet
run_fault_of_code (code.Truncated seat over) = run.Truncated seat over
run_fault_of_code (code.HeadMisplaced frame slot) = run.HeadMisplaced frame slot
run_fault_of_code code.NoHead = run.NoHead
run_fault_of_code (code.WrongCount frame layer found) = run.WrongCount frame layer found
run_fault_of_code (code.ReadFault seat) = run.ReadFault seat
run_fault_of_code code.WriteFault = run.WriteFault
run_fault_of_code code.TooLong = run.TooLong
run_fault_of_code code.NoMemory = run.NoMemory

abbrev pub run_fault_of_receive : ReceiveFault → RunFault
run_fault_of_receive (receive.Truncated seat over) = run.Truncated seat over
run_fault_of_receive (receive.BadHead frame byte) = run.BadHead frame byte
run_fault_of_receive (receive.BadTmcc frame reason) = run.BadTmcc frame reason
run_fault_of_receive (receive.Unannounced frame) = run.Unannounced frame
run_fault_of_receive (receive.NotPartial frame) = run.NotPartial frame
run_fault_of_receive (receive.ReadFault seat) = run.ReadFault seat
run_fault_of_receive receive.WriteFault = run.WriteFault
run_fault_of_receive receive.TooLong = run.TooLong
run_fault_of_receive receive.NoMemory = run.NoMemory

abbrev pub run_fault_of_sample : SampleFault → RunFault
run_fault_of_sample sample.WriteFault = run.WriteFault
run_fault_of_sample sample.NoMemory = run.NoMemory
