-- Workers that were started, from the last pass on.
use Rattle.std.proofs.Common.{◌≡◌, ◌∙◌, Bool, true, false, List, [], ◌∷◌, ◌++◌, append_assoc, append-nil, inl, inr, refl, sym, ap, subst}
use Rattle.std.specs.List.{AllZip}
use Rattle.art_sessions.specs.ArtServer.ArtTable.declared.passes.Pass.{Pass}
use Rattle.art_sessions.specs.ArtServer.ArtTable.declared.tables.Table.{Table}
use Rattle.art_workers.specs.Serving.{AreSomeOf, IsTaskOf, Running, Starts}
use Rattle.art_workers.specs.declared.serving.Staff.{Staff}

-- the passes after those that are left were given to workers, or some of them
pub record IsStarting (t : Table) (given left : List Pass) (running : List Running) (whole : Bool) : Type 0 where
  pub done : List Pass
  pub started : List Pass
  pub split : left ++ done ≡ given
  pub some : AreSomeOf started done
  pub tasks : AllZip (IsTaskOf t) started running
  pub all : whole ≡ true → started ≡ done

pub starting_none : (t : Table) (given : List Pass) → IsStarting t given given [] true
starting_none t given = record { done = []; started = []; split = append-nil given; some = refl; tasks = tt; all = λ is. refl }

module _ (t : Table) (given before left : List Pass) (p : Pass) (running : List Running) (whole : Bool)
    (is : before ≡ left ++ p ∷ []) (s : IsStarting t given before running whole) where
  split_last : left ++ p ∷ s.done ≡ given
  split_last = sym (append_assoc left (p ∷ []) s.done) ∙ (ap (λ (l : List Pass). l ++ s.done) (sym is) ∙ s.split)

  pub starting_more : (h : Running) (more : List Running) → IsTaskOf t p h → more ≡ h ∷ running
      → IsStarting t given left more whole
  starting_more h more task these = record {
    done = p ∷ s.done;
    started = p ∷ s.started;
    split = split_last;
    some = inr (s.started, refl, s.some);
    tasks = subst (λ (l : List Running). AllZip (IsTaskOf t) (p ∷ s.started) l) (sym these) (task, s.tasks);
    all = λ all. ap (λ (l : List Pass). p ∷ l) (s.all all);
  }

  pub starting_lost : IsStarting t given left running false
  starting_lost = record {
    done = p ∷ s.done;
    started = s.started;
    split = split_last;
    some = inl s.some;
    tasks = s.tasks;
    all = λ all. cc;
  }

pub starts : (t : Table) (given : List Pass) (staff : Staff) → IsStarting t given [] staff.running.items staff.all → Starts t given staff
starts t given staff s = record {
  started = s.started;
  some = subst (AreSomeOf s.started) s.split s.some;
  tasks = s.tasks;
  all = λ is. s.all is ∙ s.split;
}
