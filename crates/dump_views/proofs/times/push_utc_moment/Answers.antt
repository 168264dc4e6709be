use Rattle.std.proofs.Common.{◌/◌, ◌%◌, ◌++◌, List, ℕ, nat_le, codes, sym, ap, ◌∙◌, append_assoc}
use Rattle.std.proofs.lemmas.Bool.{cond-true, cond-false}
use Rattle.dump_views.specs.Texts.{CalendarDay, clock_text, date_text, day_since, no_utc}
use Rattle.dump_views.proofs.times.push_utc_moment.Goals as goal

pub returns-in-Some-clause-value : goal.returns-in-Some-clause-value
returns-in-Some-clause-value c =
    let text = c.args.text.now in
    let s = c.args.seconds in
    let day = day_since (s / 86400) in
    let clock = clock_text (s % 86400) in
    let dated = date_text day ++ codes "T" in
    c.push-in-Some.ensures
    ∙ ap (λ (t : List ℕ). t ++ codes "Z") (c.push_clock.ensures
    ∙ ap (λ (t : List ℕ). t ++ clock) (c.push.ensures ∙ ap (λ (t : List ℕ). t ++ codes "T") c.push_date.ensures)
    ∙ ap (λ (d : CalendarDay). ((text ++ date_text d) ++ codes "T") ++ clock) c.in-Some.ensures.day
    ∙ ap (λ (t : List ℕ). t ++ clock) (append_assoc text (date_text day) (codes "T"))
    ∙ append_assoc text dated clock)
    ∙ append_assoc text (dated ++ clock) (codes "Z")
    ∙ ap (λ (t : List ℕ). text ++ t)
    (sym (cond-true (nat_le day.year 9999) ((dated ++ clock) ++ codes "Z") no_utc (sym c.in-Some.ensures.told)))

pub returns-in-None-clause-value : goal.returns-in-None-clause-value
returns-in-None-clause-value c =
    let s = c.args.seconds in
    let day = day_since (s / 86400) in
    c.push-in-None.ensures ∙ ap (λ (t : List ℕ). c.args.text.now ++ t)
    (sym (cond-false (nat_le day.year 9999) (date_text day ++ codes "T" ++ clock_text (s % 86400) ++ codes "Z") no_utc
    (sym c.in-None.ensures.told)))
