mod EnvelopePlaces
mod HopPlaces
mod Places
mod Searches
mod Stopping
mod Located
mod NestLaws
mod ValuePlaces
mod ValueSteps
mod Hearing
mod WrittenHops
mod WrittenMessages
mod WrittenPlaces
pub mod StopsLaws
