use Rattle.std.proofs.Common.{◌≡◌, ℕ, ◌+◌, ◌-◌, ◌*◌, ◌≤◌, ◌++◌, List, length, take, drop, min, Ok, Err, ap, ◌∙◌, arith}
use Rattle.std.proofs.Common.{sym, length-drop}
use Rattle.std.specs.List.{flat_map}
use Rattle.std.proofs.lemmas.List.{take_min}
use Rattle.std.proofs.lemmas.Result.{err_from_is_err_and}
use Rattle.store_model.specs.Lists.{numbers_from, numbers_below, run_count}
use Rattle.slot_map.specs.Pictures.{row_of, row_text, rows_text}
use Rattle.slot_map.proofs.Parts.{parts_more, parts_left, parts_front}
use Rattle.script_lines.proofs.Putting.{Puts-none, Puts-one, Puts-then, Puts-cut, Puts-as}
use Rattle.slot_map.proofs.rows.write_rows.Goals as goal

-- the characters that were cut out are those of the row
row_is : (chars : List ℕ) (row past : ℕ) → past ≡ min (row * 64 + 64) (length chars)
    → row_text (row * 64) (take (past - row * 64) (drop (row * 64) chars)) ≡ row_of chars row
row_is chars row past end =
    let first : row * 64 ≡ 64 * row = omega arith in
    let count : past - row * 64 ≡ min 64 (length (drop (row * 64) chars)) =
    omega (arith, end, length-drop (row * 64) chars) in
    ap (λ (n : ℕ). row_text (row * 64) (take n (drop (row * 64) chars))) count
    ∙ ap (row_text (row * 64)) (take_min 64 (drop (row * 64) chars))
    ∙ ap (λ (n : ℕ). row_text n (take 64 (drop n chars))) first

pub loop-row-init : goal.loop-row-init
unfolding numbers_from
loop-row-init g c = Puts-none (g.W.Sink.state c.args.sink.now) tt

pub returns-in_err-write_row : goal.returns-in_err-write_row
unfolding rows_text
returns-in_err-write_row g c =
    let st = g.W.Sink.state in
    let chars = c.args.chars.now in
    let row = c.loop-row.row in
    let total = run_count 64 (length chars) in
    let before = flat_map (row_of chars) (numbers_below row) in
    let fits : row + 1 ≤ total = omega (arith, c.loop-row-test.true, c.div_ceil-row-end.ensures) in
    let p = err_from_is_err_and c.from_residual.result c.from_residual.ensures.1 in
    rw p.1
    (Puts-as (st c.args.sink.now) (st c.write_row.new.sink)
    ((before ++ row_of chars row) ++ parts_left (row_of chars) row total) _ (Err p.0)
    (sym (parts_front (row_of chars) row total fits))
    (Puts-cut (st c.args.sink.now) (st c.write_row.new.sink) (before ++ row_of chars row)
    (parts_left (row_of chars) row total) _ p.0
    (Puts-then (st c.args.sink.now) (st c.loop-row.sink) (st c.write_row.new.sink) before
    (row_of chars row) _ _ c.loop-row.invariant
    (Puts-as (st c.loop-row.sink) (st c.write_row.new.sink) _ (row_of chars row) _
    (row_is chars row c.min-past.result c.min-past.ensures) (Puts-one _ _ _ _ c.in_err-write_row.ensures)))))

pub loop-row-preserved : goal.loop-row-preserved
loop-row-preserved g c =
    let st = g.W.Sink.state in
    let chars = c.args.chars.now in
    let row = c.loop-row.row in
    let before = flat_map (row_of chars) (numbers_below row) in
    Puts-as (st c.args.sink.now) (st c.write_row.new.sink) (before ++ row_of chars row) _ (Ok tt)
    (sym (parts_more (row_of chars) row))
    (Puts-then (st c.args.sink.now) (st c.loop-row.sink) (st c.write_row.new.sink) before
    (row_of chars row) _ _ c.loop-row.invariant
    (Puts-as (st c.loop-row.sink) (st c.write_row.new.sink) _ (row_of chars row) _
    (row_is chars row c.min-past.result c.min-past.ensures) (Puts-one _ _ _ _ c.in_ok-write_row.ensures)))

pub returns : goal.returns
unfolding rows_text
returns g c =
    let chars = c.args.chars.now in
    let end : c.loop-row.row ≡ run_count 64 (length chars) =
    omega (arith, c.loop-row-test.false, c.loop-row.auto.row-end, c.div_ceil-row-end.ensures) in
    Puts-as _ _ _ _ (Ok tt) (ap (λ (n : ℕ). flat_map (row_of chars) (numbers_below n)) end) c.loop-row.invariant
