-- Changes of one board of a state.
use Rattle.std.proofs.Common.{◌≡◌, ℕ, ap, ◌∙◌}
use Rattle.theory.specs.Functions.{put}
use Rattle.theory.specs.State.{State, Board, with_boards, change}
use Rattle.theory.proofs.Functions.{put_same, put-put}

-- two changes of one board are one
pub change-change : (b : ℕ) (f g : Board → Board) (s : State) → change b g (change b f s) ≡ change b (λ x. g (f x)) s
change-change b f g s =
    ap (λ z. with_boards (put (put s.boards b (f (s.boards b))) b (g z)) s) (put_same s.boards b (f (s.boards b)))
    ∙ ap (λ z. with_boards z s) (put-put s.boards b (f (s.boards b)) (g (f (s.boards b))))
