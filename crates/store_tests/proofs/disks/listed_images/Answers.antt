-- The listed images are images, and the others are not.
use Rattle.disk_model.proofs.ListedImages.{are_of_five, are_not_of_five, are_of_over, are_not_of_over, are_of_past, are_not_of_past, are_of_two, are_not_of_two, are_of_synced, are_not_of_synced}
use Rattle.store_tests.proofs.disks.listed_images.Goals as goal

pub returns-clause-five : goal.returns-clause-five
returns-clause-five c = are_of_five

pub returns-clause-not_five : goal.returns-clause-not_five
returns-clause-not_five c = are_not_of_five

pub returns-clause-over : goal.returns-clause-over
returns-clause-over c = are_of_over

pub returns-clause-not_over : goal.returns-clause-not_over
returns-clause-not_over c = are_not_of_over

pub returns-clause-past : goal.returns-clause-past
returns-clause-past c = are_of_past

pub returns-clause-not_past : goal.returns-clause-not_past
returns-clause-not_past c = are_not_of_past

pub returns-clause-two : goal.returns-clause-two
returns-clause-two c = are_of_two

pub returns-clause-not_two : goal.returns-clause-not_two
returns-clause-not_two c = are_not_of_two

pub returns-clause-synced : goal.returns-clause-synced
returns-clause-synced c = are_of_synced

pub returns-clause-not_synced : goal.returns-clause-not_synced
returns-clause-not_synced c = are_not_of_synced
