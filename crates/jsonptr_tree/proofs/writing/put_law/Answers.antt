use Rattle.jsonptr_tree.proofs.PutLemmas.{put_whole, sub-put, put-sub, put-put, put_below, Finds-put}
use Rattle.jsonptr_tree.proofs.TreeLemmas.{IsTree-put}
use Rattle.jsonptr_tree.proofs.ListedLemmas.{IsListed-put}
use Rattle.jsonptr_tree.proofs.writing.put_law.Goals as goal

pub returns-clause-whole : goal.returns-clause-whole
returns-clause-whole c = put_whole

pub returns-clause-read : goal.returns-clause-read
returns-clause-read c = sub-put

pub returns-clause-same : goal.returns-clause-same
returns-clause-same c = put-sub

pub returns-clause-twice : goal.returns-clause-twice
returns-clause-twice c = put-put

pub returns-clause-below : goal.returns-clause-below
returns-clause-below c = put_below

pub returns-clause-finds : goal.returns-clause-finds
returns-clause-finds c = Finds-put

pub returns-clause-tree : goal.returns-clause-tree
returns-clause-tree c = IsTree-put

pub returns-clause-finite : goal.returns-clause-finite
returns-clause-finite c = IsListed-put
