-- The code of a memo, by which proofs tell two of them apart.
use Rattle.std.specs.Prelude.{◌≡◌, ℕ, List, Option, Some, None, refl}
use Rattle.std.specs.Coded.{Coded, code_by, coded×, coded_ℕ, coded_list, coded_option}
use Rattle.store_model.specs.Labels.{Lead, Label}
use Rattle.store_model.specs.Labels.Lead.{Start, Leader}
use Rattle.store_model.specs.Pages.{Cell, Page}
use Rattle.table_memory.specs.Memos.{Remembered}

abbrev pub key_of_lead : Lead → Option (List ℕ)
key_of_lead Start = None
key_of_lead (Leader key) = Some key

abbrev pub lead_of_key : Option (List ℕ) → Lead
lead_of_key None = Start
lead_of_key (Some key) = Leader key

abbrev pub lead_again : (lead : Lead) → lead_of_key (key_of_lead lead) ≡ lead
lead_again Start = refl
lead_again (Leader key) = refl

abbrev pub lead_code : Coded Lead
lead_code = code_by (Option (List ℕ)) (coded_option (coded_list coded_ℕ)) key_of_lead lead_of_key lead_again

abbrev pub label_code : Coded Label
label_code = code_by (ℕ × (Lead × ℕ)) (coded× coded_ℕ (coded× lead_code coded_ℕ)) (λ l. (l.level, (l.lead, l.index)))
    (λ p. record { level = p.0; lead = p.1.0; index = p.1.1 }) (λ _. refl)

abbrev pub cell_code : Coded Cell
cell_code = code_by (List ℕ × Option (List ℕ)) (coded× (coded_list coded_ℕ) (coded_option (coded_list coded_ℕ)))
    (λ c. (c.key, c.value)) (λ p. record { key = p.0; value = p.1 }) (λ _. refl)

abbrev pub page_code : Coded Page
page_code = code_by (Label × List Cell) (coded× label_code (coded_list cell_code)) (λ page. (page.label, page.cells))
    (λ p. record { label = p.0; cells = p.1 }) (λ _. refl)

abbrev pub remembered_code : Coded Remembered
remembered_code = coded_list (coded_option (coded× label_code (coded_option page_code)))
