-- The image of the slots that recovery leaves.
use Rattle.std.proofs.Common.{◌≡◌, ℕ, List, ◌++◌, map, sym, ap, ◌∙◌}
use Rattle.std.specs.List.{flat_map}
use Rattle.store_model.specs.Lists.{zeros, numbers_below}
use Rattle.store_model.specs.Parameters.{Parameters}
use Rattle.store_model.specs.Images.{NamesParameters, recovered, recovered_slot, journal_len, viewed_header}
use Rattle.store_model.proofs.ListsLemmasCuts.{flat_map-map}
use Rattle.recovered_store.specs.SlotsDisks.{image_of}

-- it is the image that recovery leaves
pub image_of_recovered : (image : List ℕ) (p : Parameters) → NamesParameters image p
    → image_of p (map (recovered_slot p.slots image) (numbers_below p.slots)) ≡ recovered p.slots image
unfolding recovered
image_of_recovered image p names =
    ap (λ (head : List ℕ). head ++ zeros (journal_len p.slots)
    ++ flat_map (λ slot. slot) (map (recovered_slot p.slots image) (numbers_below p.slots))) (sym names.header_is)
    ∙ ap (λ (table : List ℕ). viewed_header p.slots image ++ zeros (journal_len p.slots) ++ table)
    (flat_map-map (λ (slot : List ℕ). slot) (recovered_slot p.slots image) (numbers_below p.slots))

-- and so it is where parameters and bytes come by way of the view
pub recovered_of_view : (p own viewed : Parameters) (image bytes : List ℕ) → own ≡ p → viewed ≡ p → bytes ≡ image
    → NamesParameters image p
    → image_of own (map (recovered_slot viewed.slots bytes) (numbers_below viewed.slots)) ≡ recovered p.slots image
recovered_of_view p own viewed image bytes own_is viewed_is bytes_are names =
    ap (λ (q : Parameters). image_of q (map (recovered_slot viewed.slots bytes) (numbers_below viewed.slots))) own_is
    ∙ ap (λ (q : Parameters). image_of p (map (recovered_slot q.slots bytes) (numbers_below q.slots))) viewed_is
    ∙ ap (λ (read : List ℕ). image_of p (map (recovered_slot p.slots read) (numbers_below p.slots))) bytes_are
    ∙ image_of_recovered image p names
