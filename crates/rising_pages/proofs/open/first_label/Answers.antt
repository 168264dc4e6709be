use Rattle.std.proofs.Common.{◌≡◌, ℕ, [], ◌∷◌, Bool, true, false, cond, nat_lt, sym, ap, ◌∙◌, arith}
use Rattle.std.proofs.lemmas.Bool.{lt-ltb, le-ltb}
use Rattle.store_base.specs.Leads.{model_lead}
use Rattle.store_model.specs.Labels.{Label, Lead}
use Rattle.store_model.specs.Labels.Lead.{Start, Leader}
use Rattle.store_model.specs.Draws.{Draw}
use Rattle.store_model.specs.Pages.{Cell, lead_of}
use Rattle.rising_pages.proofs.open.first_label.Goals as goal
use Rattle.rising_pages.proofs.open.first_label.Goals.{then-top-level, else-top-level}

lead_is : (d : Draw) (level top : ℕ) (cell : Cell) (b : Bool) → top ≡ d.level cell.key → nat_lt level top ≡ b
    → cond b (Leader cell.key) Start ≡ lead_of d level (cell ∷ [])
unfolding lead_of
lead_is d level top cell b top_is test =
    sym (ap (λ (v : Bool). cond v (Leader cell.key) Start) (ap (nat_lt level) (sym top_is) ∙ test))

pub returns-clause-value : goal.returns-clause-value
returns-clause-value c = λ d top_is.
    let label : Lead → Label = λ lead. record { level = c.args.level; lead = lead; index = 0 } in
    elim c.if-top-level.branch [
      | then-top-level w ↦
          ap (λ l. label (model_lead l)) w.lead-is
          ∙ ap (λ (cell : Cell). label (Leader cell.key)) c.cell.view_is
          ∙ ap label (lead_is d c.args.level c.args.top c.args.cell.now true top_is
          (lt-ltb c.args.level c.args.top (omega (arith, w.if-top-level.true))))
      | else-top-level w ↦
          ap (λ l. label (model_lead l)) w.lead-is
          ∙ ap label (lead_is d c.args.level c.args.top c.args.cell.now false top_is
          (le-ltb c.args.level c.args.top (omega (arith, w.if-top-level.false))))
    ]
