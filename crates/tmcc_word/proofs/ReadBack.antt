-- A word reads as the record and the parity of which it is made.
use Rattle.std.proofs.Common.{◌≡◌, ℕ, ◌+◌, ◌*◌, ◌^◌, ◌<◌, Bool, true, false, refl, arith, ap, sym, ◌∙◌, subst, List, [], ◌∷◌, ◌++◌, length, take, drop, append_assoc, length-append, replicate, lit<, Option, Some, None, Ok, rules}
use Rattle.std.specs.Prelude.{not, ◌&&◌, ◌==◌, slice_range}
use Rattle.std.proofs.lemmas.List.{append-nil, drop_at, take_at}
use Rattle.std.proofs.lemmas.Bool.{eq-eqb, ne_eqb, le-leb}
use Rattle.isdbt_base.specs.declared.kinds.Modulation.{Modulation}
use Rattle.isdbt_base.specs.declared.kinds.Modulation.TheVariants.{Qpsk, Qam16, Qam64}
use Rattle.isdbt_base.specs.declared.kinds.Rate.{Rate}
use Rattle.isdbt_base.specs.declared.kinds.Rate.TheVariants.{R12, R23, R34, R56, R78}
use Rattle.isdbt_base.specs.declared.kinds.DepthCode.{DepthCode}
use Rattle.isdbt_base.specs.declared.kinds.DepthCode.TheVariants.{D0, D1, D2, D3}
use Rattle.isdbt_base.specs.Bits.{number_bits, bits_number, number_from}
use Rattle.isdbt_base.specs.LayerParameters.{LayerParameters, HasSegments}
use Rattle.isdbt_base.specs.Parameters.{Parameters, IsAccepted, HasSegmentsIfUsed, HasNoGap, layer_sum}
use Rattle.isdbt_base.proofs.BitLaws.{length-number_bits}
use Rattle.tmcc_word.specs.declared.layer_bits.LayerBits.{LayerBits}
use Rattle.tmcc_word.specs.declared.layer_bits.LayerBits.TheVariants.{Unused, Used}
use Rattle.tmcc_word.specs.Fields.{TmccFields, FitsWord, IsAcceptedIfAny}
use Rattle.tmcc_word.specs.CyclicCode.{IsCodeword, parity_of, remainder}
use Rattle.tmcc_word.specs.Words.{modulation_code, rate_code, depth_code, layer_field, setting_field, next_field, sync_code, information_bits, word_of}
use Rattle.tmcc_word.specs.Reading.{field, flag, odd_in, modulation_in, rate_in, depth_in, layer_of_codes, layer_field_at, setting_with_a, of_13_segments, setting_at, ok_part, info_at, read}
use Rattle.tmcc_word.proofs.Remainders.{parity-multiple}
use Rattle.tmcc_word.proofs.Codewords.{codeword-parity}
use Rattle.tmcc_word.proofs.Standing.{Stands, stands-front, stands-back, field-stands, flag-stands, field-number}

-- ---- codes

modulation-back : (m : Modulation) → modulation_in (modulation_code m) ≡ Some m
modulation-back Qpsk = refl
modulation-back Qam16 = refl
modulation-back Qam64 = refl

rate-back : (r : Rate) → rate_in (rate_code r) ≡ Some r
rate-back R12 = refl
rate-back R23 = refl
rate-back R34 = refl
rate-back R56 = refl
rate-back R78 = refl

depth-back : (d : DepthCode) → depth_in (depth_code d) ≡ Some d
depth-back D0 = refl
depth-back D1 = refl
depth-back D2 = refl
depth-back D3 = refl

modulation_code-lt : (m : Modulation) → modulation_code m < 7
modulation_code-lt m = search rules

rate_code-lt : (r : Rate) → rate_code r < 8
rate_code-lt r = search rules

depth_code-lt : (d : DepthCode) → depth_code d < 8
depth_code-lt d = search rules

-- ---- layers

-- what is read of a layer's bits
abbrev read_layer : Option LayerParameters → LayerBits
read_layer None = Unused
read_layer (Some l) = Used l

from_codes : (l : LayerParameters) → HasSegments l → layer_of_codes l.segments (modulation_in (modulation_code l.modulation)) (rate_in (rate_code l.rate)) (depth_in (depth_code l.depth)) ≡ Used l
from_codes l h = rw (modulation-back l.modulation, rate-back l.rate, depth-back l.depth, le-leb 1 l.segments h.0, le-leb l.segments 13 h.1) refl

length-triple : (a b c n : ℕ) → length (number_bits 3 a ++ number_bits 3 b ++ number_bits 3 c) ≡ 9
length-triple a b c n = length-append (number_bits 3 a ++ number_bits 3 b) (number_bits 3 c) ∙ (let e = length-append (number_bits 3 a) (number_bits 3 b) in omega (arith, e, length-number_bits 3 a, length-number_bits 3 b, length-number_bits 3 c))

used-stands : (word : List Bool) (at : ℕ) (l : LayerParameters) → HasSegments l → Stands word at (layer_field (Some l)) → layer_field_at word at ≡ Used l
unfolding layer_field_at
used-stands word at l h s =
    let m = number_bits 3 (modulation_code l.modulation) in
    let r = number_bits 3 (rate_code l.rate) in
    let d = number_bits 3 (depth_code l.depth) in
    let n = number_bits 4 l.segments in
    let first = stands-front word at (m ++ r ++ d) n s in
    let second = stands-front word at (m ++ r) d first in
    let is_m = field-number word at 3 (modulation_code l.modulation) (let k = modulation_code-lt l.modulation in omega (arith, k)) (stands-front word at m r second) in
    let is_r = field-number word (at + 3) 3 (rate_code l.rate) (let k = rate_code-lt l.rate in omega (arith, k)) (stands-back word at (at + 3) m r (let k = length-number_bits 3 (modulation_code l.modulation) in omega (arith, k)) second) in
    let is_d = field-number word (at + 6) 3 (depth_code l.depth) (let k = depth_code-lt l.depth in omega (arith, k)) (stands-back word at (at + 6) (m ++ r) d (let k = length-append m r in omega (arith, k, length-number_bits 3 (modulation_code l.modulation), length-number_bits 3 (rate_code l.rate))) first) in
    let is_n = field-number word (at + 9) 4 l.segments (let k = h.1 in omega (arith, k)) (stands-back word at (at + 9) (m ++ r ++ d) n (let k = length-triple (modulation_code l.modulation) (rate_code l.rate) (depth_code l.depth) 0 in omega (arith, k)) s) in
    rw (is_m, is_r, is_d, is_n, ne_eqb (modulation_code l.modulation) 7 (λ e. let k = modulation_code-lt l.modulation in omega (arith, k, e))) (from_codes l h)

seven : bits_number (true ∷ true ∷ true ∷ []) ≡ 7
unfolding number_from
seven = refl

unused-stands : (word : List Bool) (at : ℕ) → Stands word at (replicate 13 true) → layer_field_at word at ≡ Unused
unfolding layer_field_at
unused-stands word at s =
    let e = field-stands word at 3 (true ∷ true ∷ true ∷ []) refl (stands-front word at (true ∷ true ∷ true ∷ []) (replicate 10 true) s) ∙ seven in
    rw e refl

layer-stands : (word : List Bool) (at : ℕ) (o : Option LayerParameters) → HasSegmentsIfUsed o → Stands word at (layer_field o) → layer_field_at word at ≡ read_layer o
layer-stands word at None h s = unused-stands word at s
layer-stands word at (Some l) h s = used-stands word at l h s

-- ---- settings

length-layer_field : (o : Option LayerParameters) → length (layer_field o) ≡ 13
length-layer_field None = refl
length-layer_field (Some l) =
    length-append (number_bits 3 (modulation_code l.modulation) ++ number_bits 3 (rate_code l.rate) ++ number_bits 3 (depth_code l.depth)) (number_bits 4 l.segments)
    ∙ (let e = length-triple (modulation_code l.modulation) (rate_code l.rate) (depth_code l.depth) 0 in omega (arith, e, length-number_bits 4 l.segments))

pub length-setting_field : (s : Parameters) → length (setting_field s) ≡ 40
unfolding setting_field
length-setting_field s =
    let e = length-append (s.partial ∷ layer_field (Some s.a) ++ layer_field s.b) (layer_field s.c) in
    let f = length-append (s.partial ∷ layer_field (Some s.a)) (layer_field s.b) in
    omega (arith, e, f, length-layer_field (Some s.a), length-layer_field s.b, length-layer_field s.c)

segments_fit : (partial : Bool) (n : ℕ) → (partial ≡ true → n ≡ 1) → (partial && not (n == 1)) ≡ false
segments_fit false n h = refl
segments_fit true n h = rw (eq-eqb n 1 (h refl)) refl

from_sum : (s : Parameters) → layer_sum (λ l. l.segments) s ≡ 13 → of_13_segments s ≡ Ok s
from_sum s e = rw e refl

from_layers : (partial : Bool) (a : LayerParameters) (b c : Option LayerParameters) → HasNoGap b c → layer_sum (λ l. l.segments) (record { partial = partial; a = a; b = b; c = c }) ≡ 13 →
    setting_with_a partial a (read_layer b) (read_layer c) ≡ Ok (record { partial = partial; a = a; b = b; c = c })
from_layers partial a None None g e = from_sum (record { partial = partial; a = a; b = None; c = None }) e
from_layers partial a None (Some c) g e = absurd g
from_layers partial a (Some b) None g e = from_sum (record { partial = partial; a = a; b = Some b; c = None }) e
from_layers partial a (Some b) (Some c) g e = from_sum (record { partial = partial; a = a; b = Some b; c = Some c }) e

pub setting-stands : (word : List Bool) (at : ℕ) (s : Parameters) → IsAccepted s → Stands word at (setting_field s) → setting_at word at ≡ Ok s
unfolding setting_field setting_at
setting-stands word at s h st =
    let front = s.partial ∷ layer_field (Some s.a) in
    let first = stands-front word at (front ++ layer_field s.b) (layer_field s.c) st in
    let second = stands-front word at front (layer_field s.b) first in
    let is_a = layer-stands word (at + 1) (Some s.a) h.a_segments (stands-back word at (at + 1) (s.partial ∷ []) (layer_field (Some s.a)) refl second) in
    let is_b = layer-stands word (at + 14) s.b h.b_segments (stands-back word at (at + 14) front (layer_field s.b) (let e = length-layer_field (Some s.a) in omega (arith, e)) first) in
    let is_c = layer-stands word (at + 27) s.c h.c_segments (stands-back word at (at + 27) (front ++ layer_field s.b) (layer_field s.c) (let e = length-append front (layer_field s.b) in omega (arith, e, length-layer_field (Some s.a), length-layer_field s.b)) st) in
    let is_flag = flag-stands word at s.partial (layer_field (Some s.a)) second in
    rw (is_flag, is_a, is_b, is_c, segments_fit s.partial s.a.segments h.partial) (from_layers s.partial s.a s.b s.c h.no_gap h.segments)

no_setting : (word : List Bool) (at : ℕ) → Stands word at (replicate 40 true) → ok_part (setting_at word at) ≡ None
unfolding setting_at
no_setting word at st =
    let is_a = unused-stands word (at + 1) (stands-back word at (at + 1) (true ∷ []) (replicate 13 true) refl (stands-front word at (replicate 14 true) (replicate 26 true) st)) in
    rw is_a refl

next-stands : (word : List Bool) (at : ℕ) (o : Option Parameters) → IsAcceptedIfAny o → Stands word at (next_field o) → ok_part (setting_at word at) ≡ o
next-stands word at None h st = no_setting word at st
next-stands word at (Some s) h st = ap ok_part (setting-stands word at s h st)

length-next_field : (o : Option Parameters) → length (next_field o) ≡ 40
length-next_field None = refl
length-next_field (Some s) = length-setting_field s

-- ---- words

pub length-information_bits : (i : TmccFields) → length (information_bits i) ≡ 102
unfolding information_bits
length-information_bits i =
    let front = false ∷ false ∷ number_bits 4 i.countdown in
    let a = length-append front (i.start_up ∷ setting_field i.now) in
    let b = length-append (front ++ i.start_up ∷ setting_field i.now) (next_field i.next) in
    let c = length-append (front ++ i.start_up ∷ setting_field i.now ++ next_field i.next) (replicate 15 true) in
    omega (arith, a, b, c, length-number_bits 4 i.countdown, length-setting_field i.now, length-next_field i.next)

length-parity_of : (bits : List Bool) → length (parity_of bits) ≡ 82
unfolding parity_of
length-parity_of bits = length-number_bits 82 (remainder 102 (bits_number bits * 2 ^ 82))

pub length-word_of : (i : TmccFields) (odd : Bool) → length (word_of i odd) ≡ 204
unfolding word_of
length-word_of i odd =
    let a = length-append (false ∷ number_bits 16 (sync_code odd)) (replicate 3 false) in
    let b = length-append (false ∷ number_bits 16 (sync_code odd) ++ replicate 3 false) (information_bits i) in
    let c = length-append (false ∷ number_bits 16 (sync_code odd) ++ replicate 3 false ++ information_bits i) (parity_of (information_bits i)) in
    omega (arith, a, b, c, length-number_bits 16 (sync_code odd), length-information_bits i, length-parity_of (information_bits i))

sync-back : (odd : Bool) → odd_in (sync_code odd) ≡ Some odd
sync-back true = refl
sync-back false = refl

sync-lt : (odd : Bool) → sync_code odd < 2 ^ 16
sync-lt true = lit< tt
sync-lt false = lit< tt

zeros_three : bits_number (replicate 3 false) ≡ 0
unfolding number_from
zeros_three = refl

zeros_two : bits_number (false ∷ false ∷ []) ≡ 0
unfolding number_from
zeros_two = refl

-- what the information says whose fields are these
info-from : (word : List Bool) (at : ℕ) (i : TmccFields) → field word at 2 ≡ 0 →
    setting_at word (at + 7) ≡ Ok i.now → ok_part (setting_at word (at + 47)) ≡ i.next → field word (at + 2) 4 ≡ i.countdown → flag word (at + 6) ≡ i.start_up → info_at word at ≡ Ok i
unfolding info_at
info-from word at i system now next countdown start_up = rw (system, now, next, countdown, start_up) refl

-- what a word says whose parts are these
read-from : (word : List Bool) (i : TmccFields) (odd : Bool) → field word 1 16 ≡ sync_code odd → field word 17 3 ≡ 0 → remainder 102 (field word 20 184) ≡ 0 → info_at word 20 ≡ Ok i → read word ≡ Ok (i, odd)
unfolding read
read-from word i odd sync kind parity info = rw (sync, sync-back odd, kind, parity, info) refl

record Whole (i : TmccFields) (odd : Bool) : Type 0 where
  sync : Stands (word_of i odd) 0 (false ∷ number_bits 16 (sync_code odd))
  kind : Stands (word_of i odd) 17 (replicate 3 false)
  all : Stands (word_of i odd) 20 (information_bits i ++ parity_of (information_bits i))

whole : (i : TmccFields) (odd : Bool) → Whole i odd
unfolding word_of
whole i odd =
    let head = false ∷ number_bits 16 (sync_code odd) in
    let size : length head ≡ 17 = (let e = length-number_bits 16 (sync_code odd) in omega (arith, e)) in
    let kind = replicate 3 false in
    let info = information_bits i in
    let parity = parity_of info in
    let word = head ++ kind ++ info ++ parity in
    let st : Stands word 0 word = record { rest = []; here = sym (append-nil word) } in
    let two = stands-front word 0 (head ++ kind) info (stands-front word 0 (head ++ kind ++ info) parity st) in
    let regrouped : Stands word 0 (head ++ kind ++ (info ++ parity)) = subst (Stands word 0) (append_assoc (head ++ kind) info parity) st in
    record {
      sync = stands-front word 0 head kind two;
      kind = stands-back word 0 17 head kind (omega (arith, size)) two;
      all = stands-back word 0 20 (head ++ kind) (info ++ parity) (let e = length-append head kind in omega (arith, e, size)) regrouped;
    }

record Information (word : List Bool) (at : ℕ) (i : TmccFields) : Type 0 where
  system : Stands word at (false ∷ false ∷ [])
  countdown : Stands word (at + 2) (number_bits 4 i.countdown)
  start_up : Stands word (at + 6) (i.start_up ∷ setting_field i.now)
  next : Stands word (at + 47) (next_field i.next)

information : (word : List Bool) (at : ℕ) (i : TmccFields) → Stands word at (information_bits i) → Information word at i
unfolding information_bits
information word at i st =
    let front = false ∷ false ∷ number_bits 4 i.countdown in
    let now = i.start_up ∷ setting_field i.now in
    let size = length-number_bits 4 i.countdown in
    let a = stands-front word at (front ++ now ++ next_field i.next) (replicate 15 true) st in
    let b = stands-front word at (front ++ now) (next_field i.next) a in
    let c = stands-front word at front now b in
    record {
      system = stands-front word at (false ∷ false ∷ []) (number_bits 4 i.countdown) c;
      countdown = stands-back word at (at + 2) (false ∷ false ∷ []) (number_bits 4 i.countdown) refl c;
      start_up = stands-back word at (at + 6) front now (omega (arith, size)) b;
      next = stands-back word at (at + 47) (front ++ now) (next_field i.next) (let e = length-append front now in omega (arith, e, size, length-setting_field i.now)) a;
    }

-- the information reads as the record wherever it stands
info-stands : (word : List Bool) (at : ℕ) (i : TmccFields) → FitsWord i → Stands word at (information_bits i) → info_at word at ≡ Ok i
info-stands word at i fits st =
    let parts = information word at i st in
    info-from word at i
    (field-stands word at 2 (false ∷ false ∷ []) refl parts.system ∙ zeros_two)
    (setting-stands word (at + 7) i.now fits.now (stands-back word (at + 6) (at + 7) (i.start_up ∷ []) (setting_field i.now) (omega arith) parts.start_up))
    (next-stands word (at + 47) i.next fits.next parts.next)
    (field-number word (at + 2) 4 i.countdown fits.countdown parts.countdown)
    (flag-stands word (at + 6) i.start_up (setting_field i.now) parts.start_up)

pub info-information_bits : (i : TmccFields) → FitsWord i → info_at (information_bits i) 0 ≡ Ok i
info-information_bits i fits = info-stands (information_bits i) 0 i fits (record { rest = []; here = sym (append-nil (information_bits i)) })

-- bits B20 to B121 of a word are its information
pub part-word_of : (i : TmccFields) (odd : Bool) → slice_range (word_of i odd) 20 122 ≡ information_bits i
part-word_of i odd =
    let info = information_bits i in
    let st = stands-front (word_of i odd) 20 info (parity_of info) (whole i odd).all in
    ap (take 102) st.here ∙ take_at info st.rest 102 (length-information_bits i)

pub read-word_of : (i : TmccFields) (odd : Bool) → FitsWord i → read (word_of i odd) ≡ Ok (i, odd)
read-word_of i odd fits =
    let word = word_of i odd in
    let w = whole i odd in
    let info = information_bits i in
    let parity = parity_of info in
    read-from word i odd
    (field-number word 1 16 (sync_code odd) (sync-lt odd) (stands-back word 0 1 (false ∷ []) (number_bits 16 (sync_code odd)) refl w.sync))
    (field-stands word 17 3 (replicate 3 false) refl w.kind ∙ zeros_three)
    (ap (remainder 102) (field-stands word 20 184 (info ++ parity) (let e = length-append info parity in omega (arith, e, length-information_bits i, length-parity_of info)) w.all) ∙ parity-multiple info (length-information_bits i))
    (info-stands word 20 i fits (stands-front word 20 info parity w.all))

-- B20 to B203 are a codeword
pub codeword-word_of : (i : TmccFields) (odd : Bool) → IsCodeword (drop 20 (word_of i odd))
unfolding word_of
codeword-word_of i odd =
    let head = false ∷ number_bits 16 (sync_code odd) ++ replicate 3 false in
    let info = information_bits i in
    let parity = parity_of info in
    let size : length head ≡ 20 = (let e = length-append (false ∷ number_bits 16 (sync_code odd)) (replicate 3 false) in omega (arith, e, length-number_bits 16 (sync_code odd))) in
    let rest : drop 20 (head ++ info ++ parity) ≡ info ++ parity = ap (drop 20) (append_assoc head info parity) ∙ drop_at head (info ++ parity) 20 size in
    subst IsCodeword (sym rest) (codeword-parity info (length-information_bits i))
