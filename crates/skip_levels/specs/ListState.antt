-- A list over pages, seen as one record.
use Rattle.std.specs.Prelude.{Bool, refl}
use Rattle.std.specs.Coded.{Coded, code_by, coded×, coded_bool}

-- A list at one moment: its pages, its draw, and whether it is whole, as no change of it failed.
pub record ListState (P W : Type 0) : Type 0 where
  pub pages : P
  pub draw : W
  pub is_whole : Bool

abbrev pub list_code : {P W : Type 0} → Coded P → Coded W → Coded (ListState P W)
list_code {P} {W} pages draw = code_by (P × (W × Bool)) (coded× pages (coded× draw coded_bool))
    (λ l. (l.pages, (l.draw, l.is_whole))) (λ p. record { pages = p.0; draw = p.1.0; is_whole = p.1.1 }) (λ _. refl)
