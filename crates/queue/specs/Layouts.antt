-- Which layouts fit into so many places.
use Rattle.std.specs.Prelude.{ℕ, ◌*◌, Bool, cond, ◌&&◌, Ok, Err, Result, nat_le}
use Rattle.queue.specs.declared.TooSmall.{TooSmall}

abbrev pub layout_fits : ℕ → ℕ → ℕ → Bool
layout_fits count each places = nat_le count 16 && nat_le (count * each) places

abbrev pub layout_answer : Bool → Result (Unit {0}) TooSmall
layout_answer fits = cond fits (Ok tt) (Err (record {}))
