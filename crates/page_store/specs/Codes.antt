-- The codes of a map of pages and of staged pages, by which proofs tell them apart.
use Rattle.std.specs.Prelude.{◌≡◌, ℕ, Bool, List, [], ◌∷◌, slice_index_or, refl}
use Rattle.std.specs.Coded.{Coded, code_by, coded×, coded_ℕ, coded_bool, coded_list, coded_option}
use Rattle.std.specs.FinMap as maps
use Rattle.store_model.specs.declared.draw_kind.DrawKind.{DrawKind}
use Rattle.store_model.specs.declared.draw_kind.DrawKind.TheVariants.{Ruler, Sha256}
use Rattle.store_model.specs.declared.version.Version.{Version}
use Rattle.store_model.specs.declared.version.Version.TheVariants.{One, Two}
use Rattle.store_model.specs.Parameters.{Parameters}
use Rattle.store_model.specs.PageMaps.{PageMap}
use Rattle.table_memory.specs.Codes.{label_code, page_code, remembered_code}
use Rattle.table_memory.specs.Memos.{Remembered}
use Rattle.table_memory.specs.Staging.{StagedPages}
use Rattle.page_store.specs.StagedState.{StagedState}

abbrev pub page_map_code : Coded PageMap
page_map_code = maps.code (coded_list coded_ℕ) page_code

-- every kind of draw; its number is its place here, so that a kind more is a line more in each of these
abbrev pub kinds : List DrawKind
kinds = Ruler ∷ Sha256 ∷ []

abbrev pub number_of_kind : DrawKind → ℕ
number_of_kind Ruler = 0
number_of_kind Sha256 = 1

abbrev pub kind_of_number : ℕ → DrawKind
kind_of_number n = slice_index_or kinds n Ruler

abbrev pub kind_again : (kind : DrawKind) → kind_of_number (number_of_kind kind) ≡ kind
kind_again Ruler = refl
kind_again Sha256 = refl

abbrev pub kind_code : Coded DrawKind
kind_code = code_by ℕ coded_ℕ number_of_kind kind_of_number kind_again

-- and so of the versions of the format
abbrev pub versions : List Version
versions = One ∷ Two ∷ []

abbrev pub number_of_version : Version → ℕ
number_of_version One = 0
number_of_version Two = 1

abbrev pub version_of_number : ℕ → Version
version_of_number n = slice_index_or versions n One

abbrev pub version_again : (version : Version) → version_of_number (number_of_version version) ≡ version
version_again One = refl
version_again Two = refl

abbrev pub version_code : Coded Version
version_code = code_by ℕ coded_ℕ number_of_version version_of_number version_again

abbrev pub parameters_code : Coded Parameters
parameters_code =
    code_by (ℕ × (ℕ × (DrawKind × (List ℕ × Version))))
    (coded× coded_ℕ (coded× coded_ℕ (coded× kind_code (coded× (coded_list coded_ℕ) version_code))))
    (λ p. (p.slots, (p.height, (p.kind, (p.seed, p.version))))) (λ t. record {
      slots = t.0;
      height = t.1.0;
      kind = t.1.1.0;
      seed = t.1.1.1.0;
      version = t.1.1.1.1;
    }) (λ _. refl)

abbrev pub staged_pages_code : Coded StagedPages
staged_pages_code = coded_list (coded× label_code (coded_option page_code))

abbrev pub staged_code : {D W : Type 0} → Coded D → Coded W → Coded (StagedState D W)
staged_code {D} {W} disk draw =
    code_by (Parameters × (W × (PageMap × (PageMap × (StagedPages × (Remembered × (D × (Bool × ℕ))))))))
    (coded× parameters_code
    (coded× draw (coded× page_map_code
    (coded× page_map_code (coded× staged_pages_code
    (coded× remembered_code (coded× disk (coded× coded_bool coded_ℕ))))))))
    (λ s. (s.params, (s.draw, (s.map, (s.table, (s.staged, (s.memo, (s.disk, (s.is_spent, s.lookups)))))))))
    (λ t. record {
      params = t.0;
      draw = t.1.0;
      map = t.1.1.0;
      table = t.1.1.1.0;
      staged = t.1.1.1.1.0;
      memo = t.1.1.1.1.1.0;
      disk = t.1.1.1.1.1.1.0;
      is_spent = t.1.1.1.1.1.1.1.0;
      lookups = t.1.1.1.1.1.1.1.1;
    })
    (λ _. refl)
