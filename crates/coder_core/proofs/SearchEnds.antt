-- What the end of the search for the first frame head says of the command.
use Rattle.std.proofs.Common.{◌≡◌, ℕ, zero, suc, ◌*◌, ◌≤◌, ◌<◌, false, List, [], length, drop, refl, ap, ◌∙◌, arith}
use Rattle.std.specs.Prelude.{Some, None, Err}
use Rattle.std.specs.declared.option.Option.{Option}
use Rattle.edge_io.specs.declared.shelf.Seat.{Seat}
use Rattle.edge_io.specs.FrameAnswers.{FaultKind, frame_refused, read_failed, write_failed, no_memory, FrameCommand, Refused, ReadFailed, TookAtMost, Stopped, Finished, lone_account, FaultAnswer, LoneAnswer}
use Rattle.edge_io.proofs.FrameAnswers.{wrote-none, passed-none, ended-refused}
use Rattle.coder_core.specs.declared.fault.CodeFault.{CodeFault}
use Rattle.coder_core.specs.InputFrames.{first_head}
use Rattle.coder_core.specs.CodeRefusals.{packet_refusal, search_refusal, FrameCut, stream_refusal, has_frame, stream_starts}
use Rattle.coder_core.specs.Answers.{code_kind, PacketCommand, packet_command, StoppedInSearch, SearchRefused, SearchFault, SearchAnswer}
use Rattle.coder_core.proofs.FrameStarts.{start-zero, start-more, start-later}
use Rattle.coder_core.proofs.CodeStarts.{starts-zero, starts-found, starts-refused, starts-none, search_stop-least}
use Rattle.coder_core.proofs.Searching.{head-from, not_short}

-- an empty input has no frame
empty_refusal : (c : FrameCut) (limit : ℕ) → stream_refusal c [] limit 0 ≡ None
unfolding stream_refusal search_refusal first_head
empty_refusal c limit = refl

empty_there : (slots : ℕ → ℕ) → has_frame slots [] 0 ≡ false
unfolding has_frame first_head
empty_there slots = refl

pub empty_input : (c : PacketCommand) (input : List ℕ) (limit : ℕ) (left before : Option (List ℕ)) → input ≡ [] → left ≡ Some [] → Finished (packet_command c input limit) 0 before before left
empty_input c input limit left before none gone = record {
  ended = record {
    outcome = record { before = passed-none (packet_command c input limit).frames; at = ap (λ xs. stream_refusal c.cut xs limit 0) none ∙ empty_refusal c.cut limit; done = λ e. ap (λ xs. has_frame c.cut.slots xs 0) none ∙ empty_there c.cut.slots };
    written = wrote-none (packet_command c input limit).frames before;
  };
  left_is = gone;
}

-- the search belongs to frame 0
refused_first : (c : FrameCut) (input : List ℕ) (limit : ℕ) (fault : CodeFault) → search_refusal input ≡ Some fault → stream_refusal c input limit 0 ≡ Some fault
unfolding stream_refusal
refused_first c input limit fault why = rw why refl

-- good packets are whole
good-whole : (input : List ℕ) (n : ℕ) → ((k : ℕ) → k < n → packet_refusal input k ≡ None) → 204 * n ≤ length input
good-whole input zero good = omega arith
good-whole input (suc k) good = (let e = not_short input k (good k (omega arith)) in omega (arith, e))

-- a read that stopped in the search stopped in frame 0
below-end : (slots : ℕ → ℕ) (input : List ℕ) (taken f : ℕ) (r : Option CodeFault) (o : Option ℕ) → 0 < slots 0 → 0 < f → search_refusal input ≡ r → first_head input ≡ o → StoppedInSearch input taken → taken < stream_starts slots input f
below-end slots input taken f (Some fault) o have some why is stop =
    let e = starts-refused slots input f fault why some in
    let least = search_stop-least input stop.packets stop.good stop.no_head (good-whole input stop.packets stop.good) in
    omega (arith, e, least, stop.below, stop.most)
below-end slots input taken f None None have some why is stop =
    let e = starts-none slots input f None why is some in
    let least = search_stop-least input stop.packets stop.good stop.no_head (good-whole input stop.packets stop.good) in
    omega (arith, e, least, stop.below, stop.most)
below-end slots input taken f None (Some head) have some why is stop =
    let e = starts-found slots input head f is why some in
    let first = start-zero slots head in
    let one = start-more slots head 0 in
    let rises = start-later slots head 1 f (omega (arith, some)) in
    let past = head-from input stop.packets head stop.no_head is in
    omega (arith, e, first, one, rises, past, stop.below, have)

module _ (c : PacketCommand) (input : List ℕ) (limit : ℕ) (left before : Option (List ℕ)) where
  abbrev frames : FrameCommand CodeFault
  frames = (packet_command c input limit).frames

  refused : (fault : CodeFault) → SearchRefused input left fault → Refused frames (TookAtMost (packet_command c input limit) left) fault before before
  refused fault r = record {
    frame = 0;
    ended = ended-refused frames 0 fault before before (passed-none frames) (wrote-none frames before) (refused_first c.cut input limit fault r.refused);
    account = record { taken = r.taken; left_is = r.left_is; most = (let e = starts-refused c.cut.slots input 1 fault r.refused (omega arith) in let most = r.most in omega (arith, e, most)) };
  }

  stopped : (seat : Seat) → 0 < c.cut.slots 0 → 0 < limit → (taken : ℕ) × (left ≡ Some (drop taken input)) × StoppedInSearch input taken → ReadFailed frames (λ f seat. Stopped (packet_command c input limit) left f) seat before before
  stopped seat have some said =
      let below = below-end c.cut.slots input said.0 1 (search_refusal input) (first_head input) have (omega arith) refl refl said.2 in
      let end = below-end c.cut.slots input said.0 limit (search_refusal input) (first_head input) have some refl refl said.2 in
      record {
        frame = 0;
        passed = passed-none frames;
        written = wrote-none frames before;
        account = record { taken = said.0; left_is = said.1; from = (let first = starts-zero c.cut.slots input in omega (arith, first)); below = below; most = omega (arith, end) };
      }

  ended : (fault : CodeFault) (kind : FaultKind) → 0 < c.cut.slots 0 → 0 < limit → SearchFault input left fault kind → FaultAnswer frames (lone_account (packet_command c input limit) left) before before fault kind
  ended fault frame_refused have some said = refused fault said
  ended fault (read_failed seat) have some said = stopped seat have some said
  ended fault write_failed have some said = absurd said
  ended fault no_memory have some said = absurd said

  pub search_ended : (packet : List ℕ) (fault : CodeFault) → 0 < c.cut.slots 0 → 0 < limit → SearchAnswer input packet left (Err fault) → LoneAnswer code_kind (packet_command c input limit) before before left (Err fault)
  search_ended packet fault have some said = ended fault (code_kind fault) have some said
