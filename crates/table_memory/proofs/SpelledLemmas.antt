-- Lemmas on labels that bytes spell.
use Rattle.std.proofs.Common.{◌≡◌, ◌≤◌, ℕ, length, take, drop, refl, sym, ap, ap₂, ◌∙◌, arith}
use Rattle.std.proofs.lemmas.List.{take_all, drop_at}
use Rattle.std.proofs.lemmas.Nat.{from_be_bytes-to_be_bytes_4}
use Rattle.std.specs.Int.{w32, to_be_bytes, from_be_bytes}
use Rattle.store_model.specs.Labels.{Lead, Label, IsLabel, lead_bytes, label_bytes}
use Rattle.store_model.specs.Labels.Lead.{Start, Leader}
use Rattle.store_model.proofs.ImagesLemmas.{length-lead_bytes}
use Rattle.store_base.proofs.LabelBytes.{lead_bytes-spelled}
use Rattle.table_memory.specs.Spelled.{lead_in_label, label_in}

lead_in-lead_bytes : (lead : Lead) → lead_in_label (lead_bytes lead) ≡ lead
lead_in-lead_bytes Start = refl
lead_in-lead_bytes (Leader k) = refl

label_with : ℕ → Lead → ℕ → Label
label_with level lead index = record { level = level; lead = lead; index = index }

-- a label is told by its bytes
pub label_in-label_bytes : (l : Label) → IsLabel l → label_in (label_bytes l) ≡ l
unfolding label_bytes label_with
label_in-label_bytes l valid =
    let lead : lead_in_label (take 125 (drop 1 (label_bytes l))) ≡ l.lead =
    ap lead_in_label (sym (lead_bytes-spelled l (label_bytes l) valid refl)) ∙ lead_in-lead_bytes l.lead in
    let few : length (to_be_bytes w32 l.index) ≤ 4 = omega arith in
    let behind : take 4 (drop 126 (label_bytes l)) ≡ to_be_bytes w32 l.index =
    ap (take 4) (drop_at (lead_bytes l.lead) (to_be_bytes w32 l.index) 125 (length-lead_bytes l.lead valid.lead))
    ∙ take_all 4 (to_be_bytes w32 l.index) few in
    let index : from_be_bytes w32 (take 4 (drop 126 (label_bytes l))) ≡ l.index =
    ap (from_be_bytes w32) behind ∙ from_be_bytes-to_be_bytes_4 l.index valid.index in
    ap₂ (label_with l.level) lead index
