-- The items of a list that are of one kind, as far as they are known to stand in one run.
use Rattle.std.specs.Prelude.{◌≡◌, ℕ, ◌+◌, Bool, true, false, List, ◌++◌, map, replicate}
use Rattle.mvt_document.specs.declared.run.Kind.{Kind}
use Rattle.mvt_document.specs.declared.run.Kind.TheVariants as kind
use Rattle.mvt_document.specs.declared.run.Run.{Run}
use Rattle.mvt_document.specs.declared.run.Runs.{Runs}

-- `before` false values, then `count` true ones, then `following` false ones
abbrev pub one_run : ℕ → ℕ → ℕ → List Bool
one_run before count following = replicate before false ++ (replicate count true ++ replicate following false)

-- of the values before the end of what is known, exactly those of the run are true
pub record IsRun (run : Run) (values : List Bool) : Type 0 where
  pub following : ℕ
  pub rest : List Bool
  pub until : run.until ≡ run.first + (run.count + following)
  pub is : values ≡ one_run run.first run.count following ++ rest

-- of the items before the end of what is known, exactly those of the run are of the kind
abbrev pub IsRunOf : {T : Type 0} → (T → Bool) → Run → List T → Type 0
IsRunOf of_kind run items = IsRun run (map of_kind items)

-- the same for each kind
pub record AreRunsOf {T : Type 0} (of_kind : Kind → T → Bool) (runs : Runs) (items : List T) : Type 0 where
  pub names : IsRunOf (of_kind kind.Name) runs.names items
  pub messages : IsRunOf (of_kind kind.Message) runs.messages items
  pub keys : IsRunOf (of_kind kind.Key) runs.keys items
  pub values : IsRunOf (of_kind kind.Value) runs.values items
