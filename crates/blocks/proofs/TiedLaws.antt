-- What is read and written goes on behind what was.
use Rattle.std.proofs.Common.{ℕ, ◌≡◌, List, [], ◌++◌, Option, sym, ap, ◌∙◌, append_assoc, append-nil}
use Rattle.std.specs.Io.KnownBytes.{Consumes, Appends}
use Rattle.std.proofs.KnownBytes.{Consumes-nil, Consumes-trans, Appends-nil, Appends-trans}
use Rattle.blocks.specs.Tied.{Tied}

pub tied_start : {read first : List ℕ} (had held : Option (List ℕ)) → read ≡ first → Tied first had had held held read []
tied_start {first = first} had held e = record { more = []; behind = e ∙ sym (append-nil first); took = Consumes-nil had; wrote = Appends-nil held }

pub tied_on : {first read written : List ℕ} {had left left' held holds holds' : Option (List ℕ)} (bs cs : List ℕ)
    → Tied first had left held holds read written → Consumes left left' bs → Appends holds holds' cs → Tied first had left' held holds' (read ++ bs) (written ++ cs)
tied_on {first} bs cs t r w = record {
  more = t.more ++ bs;
  behind = ap (λ (l : List ℕ). l ++ bs) t.behind ∙ append_assoc first t.more bs;
  took = Consumes-trans _ _ _ _ _ t.took r;
  wrote = Appends-trans _ _ _ _ _ t.wrote w;
}
