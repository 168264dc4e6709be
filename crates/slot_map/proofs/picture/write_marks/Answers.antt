use Rattle.std.proofs.Common.{◌≡◌, ℕ, ◌-◌, ◌++◌, List, length, map, take, drop, ap, ◌∙◌, arith, length-drop}
use Rattle.std.proofs.lemmas.List.{take-map, drop-map, take_all}
use Rattle.std.proofs.lemmas.Result.{err_from_is_err_and}
use Rattle.slot_map.specs.Pictures.{mark_character, marks_title, rows_text, version_text, marks_text}
use Rattle.script_lines.proofs.Putting.{Puts-one, Puts-then, Puts-cut, Puts-as}
use Rattle.slot_map.proofs.picture.write_marks.Goals as goal

-- the marks of the slots, and the version's, by the characters of all
of_slots : (slots : ℕ) (marks chars : List ℕ) → chars ≡ map mark_character marks
    → rows_text (take slots chars) ≡ rows_text (map mark_character (take slots marks))
of_slots slots marks chars is = ap (λ (xs : List ℕ). rows_text (take slots xs)) is
    ∙ ap rows_text (take-map mark_character slots marks)

of_version : (slots : ℕ) (marks chars : List ℕ) → chars ≡ map mark_character marks
    → version_text (take (length chars - slots) (drop slots chars))
    ≡ version_text (map mark_character (drop slots marks))
of_version slots marks chars is =
    let whole : take (length chars - slots) (drop slots chars) ≡ drop slots chars =
    take_all (length chars - slots) (drop slots chars) (omega (arith, length-drop slots chars)) in
    ap version_text whole ∙ ap (λ (xs : List ℕ). version_text (drop slots xs)) is
    ∙ ap version_text (drop-map mark_character slots marks)

pub returns-in_err-put : goal.returns-in_err-put
unfolding marks_text
returns-in_err-put g c =
    let st = g.W.Sink.state in
    let title = marks_title c.args.flag in
    let rows = rows_text (map mark_character (take c.args.slots c.args.marks.now)) in
    let version = version_text (map mark_character (drop c.args.slots c.args.marks.now)) in
    let p = err_from_is_err_and c.from_residual.result c.from_residual.ensures.1 in
    rw p.1
    (Puts-cut (st c.args.sink.now) (st c.put.new.self) (title ++ rows) version p.0 p.0
    (Puts-cut {U = Unit {0}} _ _ title rows _
    p.0 (Puts-as _ _ _ title _ c.marks_title.ensures (Puts-one _ _ _ _ c.in_err-put.ensures))))

pub returns-in_err-write_rows : goal.returns-in_err-write_rows
unfolding marks_text
returns-in_err-write_rows g c =
    let st = g.W.Sink.state in
    let marks = c.args.marks.now in
    let slots = c.args.slots in
    let title = marks_title c.args.flag in
    let rows = rows_text (map mark_character (take slots marks)) in
    let version = version_text (map mark_character (drop slots marks)) in
    let p = err_from_is_err_and c.from_residual-in_err-write_rows.result c.from_residual-in_err-write_rows.ensures.1 in
    rw p.1
    (Puts-cut (st c.args.sink.now) (st c.write_rows.new.sink) (title ++ rows) version _ p.0
    (Puts-then (st c.args.sink.now) (st c.put.new.self) (st c.write_rows.new.sink) title rows _ _
    (Puts-as _ _ _ title _ c.marks_title.ensures (Puts-one _ _ _ _ c.in_ok-put.ensures))
    (Puts-as _ _ _ rows _ (of_slots slots marks c.show_marks.new.marks c.show_marks.ensures)
    c.in_err-write_rows.ensures)))

pub returns : goal.returns
unfolding marks_text
returns g c =
    let st = g.W.Sink.state in
    let marks = c.args.marks.now in
    let slots = c.args.slots in
    let title = marks_title c.args.flag in
    let rows = rows_text (map mark_character (take slots marks)) in
    let version = version_text (map mark_character (drop slots marks)) in
    Puts-then (st c.args.sink.now) (st c.write_rows.new.sink) (st c.write_version.new.sink) (title ++ rows) version _ _
    (Puts-then (st c.args.sink.now) (st c.put.new.self) (st c.write_rows.new.sink) title rows _ _
    (Puts-as _ _ _ title _ c.marks_title.ensures (Puts-one _ _ _ _ c.in_ok-put.ensures))
    (Puts-as _ _ _ rows _ (of_slots slots marks c.show_marks.new.marks c.show_marks.ensures)
    c.in_ok-write_rows.ensures))
    (Puts-as _ _ _ version _ (of_version slots marks c.show_marks.new.marks c.show_marks.ensures)
    (Puts-one _ _ _ _ c.write_version.ensures))
