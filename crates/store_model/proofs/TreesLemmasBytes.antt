-- Lemmas on the bytes of an image: they tell parameters, pages and tables apart.
use Rattle.std.proofs.Common.{◌≡◌, ℕ, zero, suc, ◌-◌, ◌<◌, List, [], ◌∷◌, ◌++◌, length, take, drop, slice_index}
use Rattle.std.proofs.Common.{slice_set, Bool, true, false, ◌&&◌, if◌then◌else◌, Option, Some, None, refl, sym, ap, ap₂}
use Rattle.std.proofs.Common.{subst, ◌∙◌, arith}
use Rattle.std.specs.Int.{w16, w32, to_be_bytes, from_be_bytes}
use Rattle.std.specs.List.{AllByRecursion, flat_map}
use Rattle.std.proofs.lemmas.Nat.{from_be_bytes-to_be_bytes_2, from_be_bytes-to_be_bytes_4}
use Rattle.std.proofs.lemmas.List.{append_assoc, drop-set-add, take-set-le}
use Rattle.store_model.specs.declared.draw_kind.DrawKind.{DrawKind}
use Rattle.store_model.specs.declared.draw_kind.DrawKind.TheVariants.{Ruler, Sha256}
use Rattle.store_model.specs.declared.version.Version.{Version}
use Rattle.store_model.specs.declared.version.Version.TheVariants.{One, Two}
use Rattle.store_model.specs.Lists.{zeros, zero_filled}
use Rattle.store_model.specs.Parameters.{Parameters, IsParameters}
use Rattle.store_model.specs.Pairs.{IsValue}
use Rattle.store_model.specs.Labels.{Lead, Label, IsLabel, lead_bytes, label_bytes}
use Rattle.store_model.specs.Labels.Lead.{Start, Leader}
use Rattle.store_model.specs.Pages.{Cell, Page, IsCellValue, IsCell, IsPage}
use Rattle.store_model.specs.Placement.{Table}
use Rattle.store_model.specs.Images.{kind_byte, version_byte, header, value_bytes, cell_bytes, page_bytes, slot_bytes}
use Rattle.store_model.specs.Images.{table_bytes, is_flag_set, is_marked, viewed_header}
use Rattle.store_model.proofs.ImagesLemmas.{length-lead_bytes, length-label_bytes, IsSlot, length-slot_bytes}

-- ---- lists that start alike

-- two lists with fronts of one length
pub fronts_same : {A : Type 0} (xs ys us vs : List A) → length xs ≡ length ys → xs ++ us ≡ ys ++ vs
    → (xs ≡ ys) × (us ≡ vs)
fronts_same [] [] us vs l e = (refl, e)
fronts_same [] (y ∷ ys) us vs l e = absurd (omega arith)
fronts_same (x ∷ xs) [] us vs l e = absurd (omega arith)
fronts_same (x ∷ xs) (y ∷ ys) us vs l e =
    let first : x ≡ y = cc in
    let rest : xs ++ us ≡ ys ++ vs = cc in
    let same = fronts_same xs ys us vs (omega arith) rest in
    (ap₂ (λ z zs. z ∷ zs) first same.0, same.1)

-- the first elements of two lists
pub heads_same : {A : Type 0} {x y : A} {xs ys : List A} → x ∷ xs ≡ y ∷ ys → x ≡ y
heads_same e = cc

-- and what is behind them
pub tails_same : {A : Type 0} {x y : A} {xs ys : List A} → x ∷ xs ≡ y ∷ ys → xs ≡ ys
tails_same e = cc

-- two numbers with the same four bytes
pub four_bytes_same : (m n : ℕ) → m < 4294967296 → n < 4294967296 → to_be_bytes w32 m ≡ to_be_bytes w32 n → m ≡ n
four_bytes_same m n hm hn e = sym (from_be_bytes-to_be_bytes_4 m hm) ∙ ap (from_be_bytes w32) e
    ∙ from_be_bytes-to_be_bytes_4 n hn

-- two numbers with the same two bytes
two_bytes_same : (m n : ℕ) → m < 65536 → n < 65536 → to_be_bytes w16 m ≡ to_be_bytes w16 n → m ≡ n
two_bytes_same m n hm hn e = sym (from_be_bytes-to_be_bytes_2 m hm) ∙ ap (from_be_bytes w16) e
    ∙ from_be_bytes-to_be_bytes_2 n hn

-- ---- the header

-- the byte of a draw kind tells it
kinds_same : (a b : DrawKind) → kind_byte a ≡ kind_byte b → a ≡ b
kinds_same Ruler Ruler e = refl
kinds_same Ruler Sha256 e = absurd (omega arith)
kinds_same Sha256 Ruler e = absurd (omega arith)
kinds_same Sha256 Sha256 e = refl

-- the byte of a version tells it
versions_same : (a b : Version) → version_byte a ≡ version_byte b → a ≡ b
versions_same One One e = refl
versions_same One Two e = absurd (omega arith)
versions_same Two One e = absurd (omega arith)
versions_same Two Two e = refl

-- the header tells the parameters
pub headers_same : (p q : Parameters) → IsParameters p → IsParameters q → header p ≡ header q → p ≡ q
unfolding header zero_filled
headers_same p q h g e =
    let slots : p.slots ≡ q.slots = four_bytes_same p.slots q.slots (let l = h.slots_in_range in omega arith)
    (let l = g.slots_in_range in omega arith) (ap (λ xs. take 4 (drop 8 xs)) e) in
    let height : p.height ≡ q.height = ap (λ xs. slice_index xs 12) e in
    let kind : p.kind ≡ q.kind = kinds_same p.kind q.kind (ap (λ xs. slice_index xs 13) e) in
    let version : p.version ≡ q.version = versions_same p.version q.version (ap (λ xs. slice_index xs 14) e) in
    let seed : p.seed ≡ q.seed = (fronts_same p.seed q.seed _ _ (h.seed_length ∙ sym g.seed_length) (ap (drop 16) e)).0
    in
    λ i. record { slots = slots i; height = height i; kind = kind i; seed = seed i; version = version i }

-- the slots stand in a header as it is read where they stand in the image
slots_of_viewed : (slots : ℕ) (image : List ℕ)
    → take 4 (drop 8 (viewed_header slots image)) ≡ take 4 (drop 8 (take 4096 image))
unfolding viewed_header
slots_of_viewed slots image = either (is_flag_set image && is_marked image slots)
  where
    either : (b : Bool) → take 4 (drop 8 (if b then slice_set (take 4096 image) 14 2 else take 4096 image))
        ≡ take 4 (drop 8 (take 4096 image))
    either true = ap (take 4) (drop-set-add 8 (take 4096 image) 6 2)
        ∙ take-set-le 4 (drop 8 (take 4096 image)) 6 2 (omega arith)
    either false = refl

-- so parameters that it is the header of have one number of slots
viewed_slots_same : (image : List ℕ) (p q : Parameters) → IsParameters p → IsParameters q
    → viewed_header p.slots image ≡ header p → viewed_header q.slots image ≡ header q → p.slots ≡ q.slots
unfolding header zero_filled
viewed_slots_same image p q h g of_p of_q =
    four_bytes_same p.slots q.slots (let l = h.slots_in_range in omega arith) (let l = g.slots_in_range in omega arith)
    (ap (λ xs. take 4 (drop 8 xs)) (sym of_p) ∙ slots_of_viewed p.slots image ∙ sym (slots_of_viewed q.slots image)
    ∙ ap (λ xs. take 4 (drop 8 xs)) of_q)

-- and are the same
pub viewed_headers_same : (image : List ℕ) (p q : Parameters) → IsParameters p → IsParameters q
    → viewed_header p.slots image ≡ header p → viewed_header q.slots image ≡ header q → p ≡ q
viewed_headers_same image p q h g of_p of_q =
    headers_same p q h g (sym of_p ∙ ap (λ n. viewed_header n image) (viewed_slots_same image p q h g of_p of_q) ∙ of_q)

-- ---- labels

-- and they tell it
pub leads_same : (a b : Lead) → lead_bytes a ≡ lead_bytes b → a ≡ b
leads_same Start Start e = refl
leads_same Start (Leader k) e = absurd (let first : 0 ≡ 1 = heads_same e in omega arith)
leads_same (Leader k) Start e = absurd (let first : 1 ≡ 0 = heads_same e in omega arith)
leads_same (Leader k) (Leader m) e = ap Leader (tails_same e)

-- the bytes of a label tell it
pub labels_same : (a b : Label) → IsLabel a → IsLabel b → label_bytes a ≡ label_bytes b → a ≡ b
unfolding label_bytes
labels_same a b h g e =
    let level : a.level ≡ b.level = heads_same e in
    let rest = fronts_same (lead_bytes a.lead) (lead_bytes b.lead) (to_be_bytes w32 a.index) (to_be_bytes w32 b.index)
    (length-lead_bytes a.lead h.lead ∙ sym (length-lead_bytes b.lead g.lead)) (tails_same e) in
    let lead : a.lead ≡ b.lead = leads_same a.lead b.lead rest.0 in
    let index : a.index ≡ b.index = four_bytes_same a.index b.index h.index g.index rest.1 in
    λ i. record { level = level i; lead = lead i; index = index i }

-- ---- cells

-- a value, filled with zeros, in front of other bytes
values_same : (v w z y : List ℕ) → IsValue v → IsValue w
    → value_bytes (Some v) ++ z ≡ value_bytes (Some w) ++ y → (v ≡ w) × (z ≡ y)
unfolding zero_filled
values_same v w z y h g e =
    let long = fronts_same (to_be_bytes w16 (length v)) (to_be_bytes w16 (length w)) (zero_filled 256 v ++ z)
    (zero_filled 256 w ++ y) refl (sym (append_assoc (to_be_bytes w16 (length v)) (zero_filled 256 v) z) ∙ e
    ∙ append_assoc (to_be_bytes w16 (length w)) (zero_filled 256 w) y) in
    let lv = h.1 in
    let lw = g.1 in
    let size : length v ≡ length w = two_bytes_same (length v) (length w) (omega (arith, lv)) (omega (arith, lw)) long.0
    in
    let value = fronts_same v w (zeros (256 - length v) ++ z) (zeros (256 - length w) ++ y) size
    (sym (append_assoc v (zeros (256 - length v)) z) ∙ long.1 ∙ append_assoc w (zeros (256 - length w)) y) in (
      value.0,
      (fronts_same (zeros (256 - length v)) (zeros (256 - length w)) z y
          (ap (λ n. length (zeros (256 - n))) size) value.1).1,
    )

-- what a cell of a level has for a value, in front of other bytes
cell_values_same : (level : ℕ) (a b : Option (List ℕ)) (z y : List ℕ) → IsCellValue level a → IsCellValue level b
    → value_bytes a ++ z ≡ value_bytes b ++ y → (a ≡ b) × (z ≡ y)
cell_values_same level None None z y h g e = (refl, e)
cell_values_same level None (Some w) z y h g e = absurd (omega arith)
cell_values_same level (Some v) None z y h g e = absurd (omega arith)
cell_values_same level (Some v) (Some w) z y h g e = let same = values_same v w z y h.1 g.1 e
    in (ap Some same.0, same.1)

-- the bytes of a cell of a level tell it, in front of other bytes
cell_same : (level : ℕ) (a b : Cell) (z y : List ℕ) → IsCell level a → IsCell level b
    → cell_bytes a ++ z ≡ cell_bytes b ++ y → (a ≡ b) × (z ≡ y)
unfolding cell_bytes
cell_same level a b z y h g e =
    let whole = fronts_same a.key b.key (value_bytes a.value ++ z) (value_bytes b.value ++ y)
    (h.key_length ∙ sym g.key_length) (sym (append_assoc a.key (value_bytes a.value) z) ∙ e
    ∙ append_assoc b.key (value_bytes b.value) y) in
    let rest = cell_values_same level a.value b.value z y h.value g.value whole.1 in
    let key = whole.0 in
    let value = rest.0 in
    (λ i. record { key = key i; value = value i }, rest.1)

-- so do those of as many cells
cells_same : (level : ℕ) (cs ds : List Cell) (z y : List ℕ) → AllByRecursion (IsCell level) cs
    → AllByRecursion (IsCell level) ds → length cs ≡ length ds
    → flat_map cell_bytes cs ++ z ≡ flat_map cell_bytes ds ++ y → cs ≡ ds
cells_same level [] [] z y h g l e = refl
cells_same level [] (b ∷ ds) z y h g l e = absurd (omega arith)
cells_same level (a ∷ cs) [] z y h g l e = absurd (omega arith)
cells_same level (a ∷ cs) (b ∷ ds) z y h g l e =
    let first = cell_same level a b (flat_map cell_bytes cs ++ z)
    (flat_map cell_bytes ds ++ y) h.0 g.0 (sym (append_assoc (cell_bytes a) (flat_map cell_bytes cs) z) ∙ e
    ∙ append_assoc (cell_bytes b) (flat_map cell_bytes ds) y) in
    ap₂ (λ c rest. c ∷ rest) first.0 (cells_same level cs ds z y h.1 g.1 (omega arith) first.1)

-- ---- pages and tables

-- the bytes of a page tell it
pub page_bytes_same : (a b : Page) → IsPage a → IsPage b → page_bytes a ≡ page_bytes b → a ≡ b
unfolding page_bytes zero_filled
page_bytes_same a b h g e =
    let behind = λ (page : Page). length page.cells ∷ flat_map cell_bytes page.cells in
    let whole = fronts_same (label_bytes a.label) (label_bytes b.label) (behind a ++ zeros _) (behind b ++ zeros _)
    (length-label_bytes a.label h.label ∙ sym (length-label_bytes b.label g.label))
    (sym (append_assoc (label_bytes a.label) (behind a) (zeros _)) ∙ tails_same e
    ∙ append_assoc (label_bytes b.label) (behind b) (zeros _)) in
    let label : a.label ≡ b.label = labels_same a.label b.label h.label g.label whole.0 in
    let cells : a.cells ≡ b.cells = cells_same a.label.level a.cells b.cells (zeros _)
    (zeros _) h.cells (subst (λ l. AllByRecursion (IsCell l.level) b.cells) (sym label) g.cells)
    (heads_same whole.1) (tails_same whole.1) in
    λ i. record { label = label i; cells = cells i }

-- zeros do not begin with 1
no_zeros : (n : ℕ) (xs : List ℕ) → zeros n ≡ 1 ∷ xs → ⊥
no_zeros zero xs e = cc
no_zeros (suc n) xs e = let first : ◌≡◌ {A = ℕ} 0 1 = heads_same e in omega arith

-- the bytes of a slot tell it
pub slots_same : (a b : Option Page) → IsSlot a → IsSlot b → slot_bytes a ≡ slot_bytes b → a ≡ b
unfolding slot_bytes page_bytes zero_filled
slots_same None None h g e = refl
slots_same None (Some page) h g e = absurd (no_zeros 4096 _ e)
slots_same (Some page) None h g e = absurd (no_zeros 4096 _ (sym e))
slots_same (Some a) (Some b) h g e = ap Some (page_bytes_same a b h g e)

-- the bytes of a table tell it
pub tables_same : (a b : Table) → AllByRecursion IsSlot a → AllByRecursion IsSlot b → length a ≡ length b
    → table_bytes a ≡ table_bytes b → a ≡ b
unfolding table_bytes
tables_same [] [] h g l e = refl
tables_same [] (y ∷ b) h g l e = absurd (omega arith)
tables_same (x ∷ a) [] h g l e = absurd (omega arith)
tables_same (x ∷ a) (y ∷ b) h g l e =
    let first = fronts_same (slot_bytes x) (slot_bytes y) (flat_map slot_bytes a) (flat_map slot_bytes b)
    (length-slot_bytes x h.0 ∙ sym (length-slot_bytes y g.0)) e in
    ap₂ (λ slot slots. slot ∷ slots) (slots_same x y h.0 g.0 first.0) (tables_same a b h.1 g.1 (omega arith) first.1)
