-- Labels that bytes spell.
use Rattle.std.specs.Prelude.{ℕ, List, ◌==◌, if◌then◌else◌, take, drop, slice_index}
use Rattle.std.specs.Int.{w32, from_be_bytes}
use Rattle.store_model.specs.Labels.{Lead, Label}
use Rattle.store_model.specs.Labels.Lead.{Start, Leader}

-- the lead that 125 bytes of a label spell
abbrev pub lead_in_label : List ℕ → Lead
lead_in_label bytes = if slice_index bytes 0 == 0 then Start else Leader (drop 1 bytes)

-- the label that 130 bytes spell
abbrev pub label_in : List ℕ → Label
label_in bytes = record {
  level = slice_index bytes 0;
  lead = lead_in_label (take 125 (drop 1 bytes));
  index = from_be_bytes w32 (take 4 (drop 126 bytes));
}
