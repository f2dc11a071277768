-- Promises of a list of handles, one after another.
use Rattle.std.proofs.Common.{◌≡◌, List, [], ◌∷◌, ◌++◌, length, refl, ap}
use Rattle.std.specs.declared.thread.PromisedHandle.{PromisedHandle}
use Rattle.art_load.specs.Threads.{AreOfTable, IsOfTable, promises_of}
use Rattle.art_load.specs.declared.loads.Loaded.{Loaded}
use Rattle.art_table.specs.declared.tables.Table.{Table}
use Rattle.art_load.specs.declared.threads.LoadPromise.{LoadPromise}

pub promises_last : (hs : List (PromisedHandle Loaded LoadPromise)) (h : PromisedHandle Loaded LoadPromise)
    → promises_of (hs ++ h ∷ []) ≡ promises_of hs ++ h.promise ∷ []
promises_last [] h = refl
promises_last (k ∷ hs) h = ap (λ (l : List LoadPromise). k.promise ∷ l) (promises_last hs h)

pub of_table_last : (t : Table) (ps : List LoadPromise) (p : LoadPromise) → AreOfTable t (ps ++ p ∷ []) → AreOfTable t ps × IsOfTable t p
of_table_last t [] p are = (tt, are.0)
of_table_last t (q ∷ ps) p are = let rest = of_table_last t ps p are.1 in ((are.0, rest.0), rest.1)

pub no_items : {A : Type 0} (xs : List A) → length xs ≡ 0 → xs ≡ []
no_items [] e = refl
no_items (x ∷ xs) e = cc
