-- The information of a broadcast packet, eight bytes after the packet, in this project's own layout.
use Rattle.std.specs.Prelude.{ℕ, ◌+◌, ◌*◌, ◌/◌, ◌%◌, List, ◌∷◌, ◌++◌, slice_index, Bool, true, false, ◌==◌, ◌&&◌, ◌^◌, ◌-◌, if◌then◌else◌, Option, Some, None}
use Rattle.std.specs.Int.{w16, w32, from_bool, to_be_bytes, bit_at}
use Rattle.isdbt_base.specs.declared.kinds.Layer.{Layer}
use Rattle.isdbt_base.specs.declared.kinds.Layer.TheVariants.{A, B, C}
use Rattle.bts_info.specs.Fields.{Fields, Tag}

-- the eight bytes: the fields in their order, each from its highest bit
abbrev pub information : Fields → List ℕ
information i =
    (64 * i.identifier + 32 * from_bool i.reserved + 16 * from_bool i.buffer_reset + 8 * from_bool i.start_up
    + 4 * from_bool i.first + 2 * from_bool i.head + from_bool i.odd)
    ∷ (16 * i.layer + i.countdown)
    ∷ to_be_bytes w16 (32768 * from_bool i.ac_invalid + 8192 * i.ac_effective + i.counter)
    ++ to_be_bytes w32 i.ac

-- the fields of eight bytes
abbrev pub fields_of : List ℕ → Fields
fields_of bytes = record {
  identifier = slice_index bytes 0 / 64;
  reserved = slice_index bytes 0 / 32 % 2 == 1;
  buffer_reset = slice_index bytes 0 / 16 % 2 == 1;
  start_up = slice_index bytes 0 / 8 % 2 == 1;
  first = slice_index bytes 0 / 4 % 2 == 1;
  head = slice_index bytes 0 / 2 % 2 == 1;
  odd = slice_index bytes 0 % 2 == 1;
  layer = slice_index bytes 1 / 16;
  countdown = slice_index bytes 1 % 16;
  ac_invalid = slice_index bytes 2 / 128 == 1;
  ac_effective = slice_index bytes 2 / 32 % 4;
  counter = 256 * (slice_index bytes 2 % 32) + slice_index bytes 3;
  ac = 16777216 * slice_index bytes 4 + 65536 * slice_index bytes 5 + 256 * slice_index bytes 6 + slice_index bytes 7;
}

-- the layer indicator: 1, 2, 3 for the layers, 0 for none
abbrev pub indicator : Option Layer → ℕ
indicator None = 0
indicator (Some A) = 1
indicator (Some B) = 2
indicator (Some C) = 3

-- the layer that an indicator names
abbrev pub named_layer : ℕ → Option Layer
named_layer n = if n == 1 then Some A else if n == 2 then Some B else if n == 3 then Some C else None

-- the information that is written for a slot
abbrev pub info_for : Tag → Option Layer → ℕ → Fields
info_for tag layer slot = record {
  identifier = 2;
  reserved = true;
  buffer_reset = false;
  start_up = tag.start_up;
  first = tag.first && (slot == 0);
  head = slot == 0;
  odd = tag.odd;
  layer = indicator layer;
  countdown = tag.countdown;
  ac_invalid = true;
  ac_effective = 3;
  counter = slot;
  ac = 2 ^ 32 - 1;
}

-- the fields of a broadcast packet that are read: head flag and layer
abbrev pub has_head : List ℕ → Bool
has_head bytes = bit_at (slice_index bytes 0) 1 == 1

abbrev pub layer_named : List ℕ → Option Layer
layer_named bytes = named_layer (slice_index bytes 1 / 16)
